use Rattle.ps_program.proofs.CommandLines.HelpLemmas.{made_help}
use Rattle.std.specs.String.{string_bytes}
use Rattle.ps_program.proofs.help.help_text.Goals as goal

pub returns : goal.returns
returns c = made_help (string_bytes c.in_ok-text.text) (string_bytes c.push_usages.new.text)
    (string_bytes c.push_str.new.self) c.usages.result.now c.usages.ensures c.in_ok-text.ensures.ok
    c.in_ok-push_usages.ensures c.in_ok-push_str.ensures.bytes
