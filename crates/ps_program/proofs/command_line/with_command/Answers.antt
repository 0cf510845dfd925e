use Rattle.std.proofs.Common.{map}
use Rattle.ps_program.proofs.CommandLines.CommandLemmas.{grown}
use Rattle.ps_program.proofs.command_line.with_command.Goals as goal

pub returns : goal.returns
returns c = grown c.subcommand.result c.args.psyn c.in_ok-command_with.field-0 c.args.name.now
    (map (λ flag. flag.now) c.args.flags.now) c.in_ok-command_with.ensures c.subcommand.ensures
