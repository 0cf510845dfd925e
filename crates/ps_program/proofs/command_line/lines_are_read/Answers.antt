use Rattle.ps_program.proofs.CommandLines.CommandLemmas.{lines_read, help_asked}
use Rattle.ps_program.proofs.command_line.lines_are_read.Goals as goal

pub returns : goal.returns
returns c = record { lines = lines_read; help = help_asked }
