use Rattle.std.proofs.Common.{ℕ, List, arith, subst}
use Rattle.ps_synthesis.specs.Printing.{PrintsGame}
use Rattle.ps_program.proofs.ByCommand.OutcomeLemmas.{whenever}
use Rattle.ps_program.proofs.printing.add_game.Goals as goal

pub returns-clause-printed : goal.returns-clause-printed
returns-clause-printed c = whenever c.extend_from_slice-2.result (subst (λ (t : List ℕ). PrintsGame t c.args.game.now)
    c.in_ok-write.ensures.bytes (record {
      written = c.in_ok-write.ensures.bytes;
      read_again = λ le. c.in_ok-write.ensures.read_again (omega (arith, le, c.in_ok-write.field-0.ok));
    }))
