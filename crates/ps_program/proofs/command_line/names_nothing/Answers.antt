use Rattle.ps_program.proofs.CommandLines.CommandLemmas.{longer_than_each, no_hyphen}
use Rattle.ps_program.proofs.command_line.names_nothing.Goals as goal

pub returns-then-first-ne45 : goal.returns-then-first-ne45
returns-then-first-ne45 c longer = (
  longer_than_each c.usages.result.now c.args.word.now c.usages.ensures (c.is_longer.ensures.0 longer),
  no_hyphen c.args.word.now c.as_bytes.result.now c.as_bytes.ensures.value c.if-first-ne45.true,
)
