use Rattle.ps_program.proofs.CommandLines.CommandLemmas.{made_table}
use Rattle.ps_program.proofs.command_line.table.Goals as goal

pub returns : goal.returns
returns c = made_table c.with_commands.result c.usages.result.now c.usages.ensures c.with_commands.ensures
