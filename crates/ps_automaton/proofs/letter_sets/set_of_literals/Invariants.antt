use Rattle.std.proofs.Common.{◌≡◌, ◌+◌, ◌<◌, ℕ, Bool, List, cond, false, length, drop}
use Rattle.ps_label.specs.Expression.{AreOver, literal_expressions, operands_in}
use Rattle.ps_label.specs.Truth.{is_in, all_true}
use Rattle.ps_automaton.specs.Inner.LetterSets.{ArePropositionSets}
use Rattle.ps_automaton.proofs.letter_sets.set_of_literals.Given as goal

-- all literals are true at a letter exactly if the letter is in `set` and all remaining literals are true at the letter
abbrev pub invariant-loop-literal : goal.invariant-loop-literal
invariant-loop-literal l =
    let rest = operands_in (literal_expressions (drop l.literal-index l.literals)) in record {
      decides : (first letter : ℕ) → ArePropositionSets first l.propositions → letter < 64 → (known : List Bool) →
          cond (is_in letter l.set) (all_true known (first + letter) rest) false ≡ all_true known (first + letter)
          (operands_in (literal_expressions l.literals));
      within : (aliases : ℕ) × AreOver aliases (length l.propositions) rest;
    }
