use Rattle.std.proofs.Common.{◌≡◌, ◌+◌, ◌<◌, ℕ, cond, true, false, length, drop}
use Rattle.ps_label.specs.Expression.{expression, operands_in, AreOver}
use Rattle.ps_label.specs.Truth.{expressions, is_in, truth, all_true, any_true}
use Rattle.ps_automaton.specs.Inner.LetterSets.{ArePropositionSets, membership}
use Rattle.ps_automaton.proofs.letter_sets.+set_of.Given as goal

abbrev pub decreases-set_of : goal.decreases-set_of
decreases-set_of l = goal.size-set_of l

-- a conjunction is true at a letter exactly if the letter is in `set` and all remaining operands are true at the letter
abbrev pub invariant-loop-operand : goal.invariant-loop-operand
invariant-loop-operand l = record {
  decides : (first letter : ℕ) → ArePropositionSets first l.propositions → letter < 64 → cond (is_in letter l.set)
      (all_true (membership letter l.aliases) (first + letter) (operands_in (expressions
      (drop l.operand-index l.operand-items)))) false ≡ truth (membership letter l.aliases) (first + letter)
      (expression l.label);
  within : AreOver (length l.aliases) (length l.propositions) (operands_in (expressions
      (drop l.operand-index l.operand-items)));
}

-- a disjunction is true at a letter exactly if the letter is in `set` or a remaining operand is true at the letter
abbrev pub invariant-loop-operand-2 : goal.invariant-loop-operand-2
invariant-loop-operand-2 l = record {
  decides : (first letter : ℕ) → ArePropositionSets first l.propositions → letter < 64 → cond (is_in letter l.set) true
      (any_true (membership letter l.aliases) (first + letter) (operands_in (expressions
      (drop l.operand-index l.operand-items)))) ≡ truth (membership letter l.aliases) (first + letter)
      (expression l.label);
  within : AreOver (length l.aliases) (length l.propositions) (operands_in (expressions
      (drop l.operand-index l.operand-items)));
}
