use Rattle.std.proofs.Common.{◌≡◌, length}
use Rattle.ps_label.specs.Expression.{expression}
use Rattle.ps_automaton.proofs.EdgesAtLetters.LetterSets.{HaveTruths}
use Rattle.ps_automaton.proofs.letter_sets.LetterSets.of_label.Given as goal

-- the set has the masks of the words that were visited so far
abbrev pub invariant-loop-word : goal.invariant-loop-word
invariant-loop-word l = record {
  so_far : length l.set.items ≡ l.word-index;
  truths : HaveTruths l.fn.file (expression l.label) l.word-index l.set.items;
}
