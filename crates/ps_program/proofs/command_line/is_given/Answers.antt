use Rattle.std.proofs.Common.{◌∙◌, None, Some}
use Rattle.clap.specs.Words.{found_of}
use Rattle.ps_program.proofs.CommandLines.CommandLemmas.{given_is}
use Rattle.ps_program.proofs.command_line.is_given.Goals as goal

pub returns-in-Some : goal.returns-in-Some
returns-in-Some c = c.eq.ensures ∙ given_is (found_of c.args.flags.now) c.args.name.now (Some c.in-Some.text.now)
    (rw c.in-Some.is at c.get_str.ensures)

pub returns-in-None : goal.returns-in-None
returns-in-None c = given_is (found_of c.args.flags.now) c.args.name.now None (rw c.in-None.is at c.get_str.ensures)
