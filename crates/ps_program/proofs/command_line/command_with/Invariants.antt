use Rattle.std.proofs.Common.{◌≡◌, map, take, false}
use Rattle.clap.specs.Words.{app_of}
use Rattle.clap.specs.declared.builder.command.Command.TheViews.{out-Command as fields_of}
use Rattle.ps_program.proofs.CommandLines.CommandLemmas.{app_with}
use Rattle.ps_program.proofs.command_line.command_with.Given as goal

-- the command has the flags before the loop's index, and no global flag (one that clap also accepts after a subcommand)
abbrev pub invariant-loop-given : goal.invariant-loop-given
invariant-loop-given l =
    (app_of l.command ≡ app_with l.name (map (λ flag. flag.now) (take l.given-index l.flags))) ×
    ((fields_of l.command).has_globals ≡ false)
