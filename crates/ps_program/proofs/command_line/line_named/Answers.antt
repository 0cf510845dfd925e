use Rattle.std.proofs.Common.{◌∙◌, None, Some}
use Rattle.clap.specs.Matches.{found_of}
use Rattle.clap.specs.Words.{rows_of}
use Rattle.ps_program.specs.CommandLine.{is_given}
use Rattle.ps_program.proofs.CommandLines.CommandLemmas.{row_found}
use Rattle.ps_program.proofs.command_line.line_named.Goals as goal

pub returns-in-Some : goal.returns-in-Some
returns-in-Some c = c.with.ensures ∙ row_found c.usages.result.now c.args.name.now
    (λ flag. is_given flag (rows_of (found_of c.args.flags.now))) (Some c.in-Some.usage.now) c.usages.ensures
    c.in-Some.ensures

pub returns-in-None : goal.returns-in-None
returns-in-None c = row_found c.usages.result.now c.args.name.now
    (λ flag. is_given flag (rows_of (found_of c.args.flags.now))) None c.usages.ensures c.in-None.ensures
