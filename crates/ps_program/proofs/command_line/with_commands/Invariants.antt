use Rattle.std.proofs.Common.{◌≡◌, map, take}
use Rattle.clap.specs.Words.{app_of}
use Rattle.ps_program.specs.CommandLine.{program, with_commands}
use Rattle.ps_program.specs.Inner.Usages.{usage_of}
use Rattle.ps_program.proofs.command_line.with_commands.Given as goal

-- clap's description of the program has the commands of psyn's table before the loop's index
abbrev pub invariant-loop-usage : goal.invariant-loop-usage
invariant-loop-usage l = app_of l.psyn ≡ with_commands program (map usage_of (take l.usage-index l.usages))
