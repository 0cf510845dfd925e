-- The truth of an expression at a letter.
use Rattle.std.specs.Prelude.{◌≡◌, ℕ, ◌/◌, ◌%◌, ◌^◌, ◌<◌, Bool, true, false, cond, List, [], ◌∷◌, ◌++◌, length, map}
use Rattle.std.specs.Prelude.{nat_eq, slice_index_or}
use Rattle.ps_label.specs.declared.label.Label.{Label}
use Rattle.ps_label.specs.Expression.{Expression, constant, proposition, alias, not_of, all_of, any_of, Operands, last}
use Rattle.ps_label.specs.Expression.{more, expression}

-- proposition p is bit p of the letter, where bit 0 is the lowest bit
abbrev pub is_in : ℕ → ℕ → Bool
is_in p letter = nat_eq (letter / 2 ^ p % 2) 1

-- the truth of an expression, given the truth of each alias in the list `known`
abbrev mutual
  pub truth : List Bool → ℕ → Expression → Bool
  truth known letter (constant b) = b
  truth known letter (proposition p) = is_in p letter
  truth known letter (alias k) = slice_index_or known k false
  truth known letter (not_of e) = cond (truth known letter e) false true
  truth known letter (all_of es) = all_true known letter es
  truth known letter (any_of es) = any_true known letter es

  pub all_true : List Bool → ℕ → Operands → Bool
  all_true known letter last = true
  all_true known letter (more e es) = cond (truth known letter e) (all_true known letter es) false

  pub any_true : List Bool → ℕ → Operands → Bool
  any_true known letter last = false
  any_true known letter (more e es) = cond (truth known letter e) true (any_true known letter es)

-- the table `known` of the aliases' truths gives each alias the truth of its expression, computed with the same table
pub record AreTruths (aliases : List Expression) (letter : ℕ) (known : List Bool) : Type 0 where
  pub one_each : length known ≡ length aliases
  pub each : (k : ℕ) → k < length aliases → slice_index_or known k false ≡ truth known letter
      (slice_index_or aliases k (constant false))

-- the table `known` of the truths of earlier aliases, extended by the truths of the given aliases, one after another
abbrev pub truths_behind : List Bool → ℕ → List Expression → List Bool
truths_behind known letter [] = known
truths_behind known letter (e ∷ es) = truths_behind (known ++ truth known letter e ∷ []) letter es

-- The truth of a label at a letter; alias k is the expression with the index k in `aliases`. If each alias uses only
-- earlier aliases, exactly one table gives each alias the truth of its own expression, and the label's truth is
-- computed with this table.
unfoldable pub alias_truths : List Expression → ℕ → List Bool
alias_truths aliases letter = truths_behind [] letter aliases

unfoldable pub label_truth : List Expression → ℕ → Expression → Bool
label_truth aliases letter e = truth (alias_truths aliases letter) letter e

abbrev pub expressions : List Label → List Expression
expressions labels = map expression labels
