use Rattle.std.proofs.Common.{arith, sym, ◌∙◌}
use Rattle.ps_automaton.proofs.EdgesAtLetters.LetterSets.{letter_with, letter_without}
use Rattle.ps_automaton.proofs.letter_sets.set_of_proposition.Goals as goal
use Rattle.ps_automaton.proofs.letter_sets.set_of_proposition.Goals.{then-is_in, else-is_in}

pub loop-letter-preserved : goal.loop-letter-preserved
loop-letter-preserved c = elim c.if-is_in.branch [
  | then-is_in w ↦ letter_with (omega arith) w.set-is (sym c.is_in.ensures ∙ w.if-is_in.true) c.loop-letter.invariant
  | else-is_in w ↦ rw w.set-is (letter_without (sym c.is_in.ensures ∙ w.if-is_in.false) c.loop-letter.invariant)
]
