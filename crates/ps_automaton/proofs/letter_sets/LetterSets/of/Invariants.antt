use Rattle.std.proofs.Common.{◌≡◌, ℕ, ◌*◌, length, Some}
use Rattle.std.specs.List.{slice_get}
use Rattle.ps_automaton.specs.Inner.LetterSets.{AreWordSets}
use Rattle.ps_automaton.specs.declared.letter_sets.WordSets.{WordSets}
use Rattle.ps_automaton.proofs.letter_sets.LetterSets.of.Given as goal

abbrev pub invariant-loop-word : goal.invariant-loop-word
invariant-loop-word l = record {
  so_far : length l.words.items ≡ l.word;
  each : (k : ℕ) (word : WordSets) → slice_get l.words.items k ≡ Some word → AreWordSets l.file (64 * k) word;
}
