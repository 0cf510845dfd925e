use Rattle.std.proofs.Common.{◌≡◌, ◌+◌, ◌<◌, ℕ, length, drop}
use Rattle.ps_label.specs.Expression.{AreOverFrom}
use Rattle.ps_label.specs.Truth.{alias_truths, expressions, truths_behind}
use Rattle.ps_automaton.specs.Inner.LetterSets.{ArePropositionSets, membership}
use Rattle.ps_automaton.proofs.letter_sets.sets_of_aliases.Given as goal

-- for each alias visited so far, `sets` has the set of letters at which the alias is true; evaluating the remaining
-- aliases at a letter, with the visited aliases' truth values from `sets`, gives the truth values of all aliases there
abbrev pub invariant-loop-alias : goal.invariant-loop-alias
invariant-loop-alias l = record {
  one_each : length l.sets.items ≡ l.alias-index;
  known : (first letter : ℕ) → ArePropositionSets first l.propositions → letter < 64 → truths_behind
      (membership letter l.sets.items) (first + letter) (expressions (drop l.alias-index l.alias-items)) ≡
      alias_truths (expressions l.labels) (first + letter);
  ordered : AreOverFrom l.alias-index (length l.propositions) (expressions (drop l.alias-index l.alias-items));
}
