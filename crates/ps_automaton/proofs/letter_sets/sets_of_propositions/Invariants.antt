use Rattle.std.proofs.Common.{◌≡◌, length}
use Rattle.ps_automaton.specs.Inner.LetterSets.{ArePropositionSets}
use Rattle.ps_automaton.proofs.letter_sets.sets_of_propositions.Given as goal

abbrev pub invariant-loop-proposition : goal.invariant-loop-proposition
invariant-loop-proposition l = record {
  one_each : length l.sets.items ≡ l.proposition;
  sets : ArePropositionSets l.first l.sets.items;
}
