use Rattle.std.proofs.Common.{◌∙◌, ap, sym}
use Rattle.clap.specs.Matches.{found_of}
use Rattle.clap.specs.Words.{rows_of}
use Rattle.clap.specs.declared.parser.matches.ArgMatches.TheViews.{out-ArgMatches}
use Rattle.ps_program.specs.CommandLine.{line_said}
use Rattle.ps_program.proofs.CommandLines.CommandLemmas.{one_subcommand}
use Rattle.ps_program.proofs.command_line.line_of.Goals as goal

pub returns-in-Some : goal.returns-in-Some
returns-in-Some c = c.line_named.ensures
    ∙ ap line_said (sym (one_subcommand _ _ (out-ArgMatches c.args.matches.now).subcommand
    c.in-Some.name.now (rows_of (found_of c.in-Some.flags.now)) c.in-Some.ensures.name c.in-Some.ensures.rows))
