use Rattle.ps_automaton.proofs.EdgesAtLetters.LetterSets.{AreVisited}
use Rattle.ps_automaton.proofs.letter_sets.set_of_proposition.Given as goal

abbrev pub invariant-loop-letter : goal.invariant-loop-letter
invariant-loop-letter l = AreVisited l.proposition l.first l.letter l.set
