-- Expressions whose propositions are renamed.
-- - `renamed_operands`: operands are renamed one by one
-- - `over_renamed`, `aliases_over`: renamed expressions use the same aliases, and propositions that the renaming gives
-- - `ordered_at`: an alias uses only earlier ones
-- - `alias_over`: so does a renamed alias
use Rattle.std.specs.Prelude.{◌≡◌, ℕ, zero, suc, ◌+◌, ◌<◌, List, [], ◌∷◌, length, map}
use Rattle.std.proofs.Common.{refl, ap, subst, arith, get_or}
use Rattle.std.proofs.lemmas.List.{get_or-map, length-map}
use Rattle.ps_label.specs.declared.label.Label.{Label}
use Rattle.ps_label.specs.Expression.{Expression, constant, proposition, alias, not_of, all_of, any_of, Operands, last}
use Rattle.ps_label.specs.Expression.{AreOrdered, AreOver, AreOverFrom, IsOver, expression, more, operands_in}
use Rattle.ps_label.specs.Truth.{expressions}
use Rattle.ps_mixing.specs.MixedFiles.{all_renamed, renamed}
use Rattle.ps_mixing.specs.Orders.{place_in}
use Rattle.ps_mixing.specs.Inner.Renaming.{IsWithin}

pub renamed_operands : (to : ℕ → ℕ) (es : List Expression) →
    all_renamed to (operands_in es) ≡ operands_in (map (renamed to) es)
renamed_operands to [] = refl
renamed_operands to (e ∷ es) = ap (more (renamed to e)) (renamed_operands to es)

module _ (to : ℕ → ℕ) (n m : ℕ) (within : (p : ℕ) → p < n → to p < m) where
  mutual
    pub over_renamed : (k : ℕ) (e : Expression) → IsOver k n e → IsOver k m (renamed to e)
    over_renamed k (constant b) over = over
    over_renamed k (proposition p) over = within p over
    over_renamed k (alias a) over = over
    over_renamed k (not_of e) over = over_renamed k e over
    over_renamed k (all_of es) over = all_over k es over
    over_renamed k (any_of es) over = all_over k es over

    all_over : (k : ℕ) (es : Operands) → AreOver k n es → AreOver k m (all_renamed to es)
    all_over k last over = over
    all_over k (more e es) over = (over_renamed k e over.0, all_over k es over.1)

  pub aliases_over : (k : ℕ) (es : List Expression) → AreOverFrom k n es → AreOverFrom k m (map (renamed to) es)
  aliases_over k [] over = over
  aliases_over k (e ∷ es) over = (over_renamed k e over.0, aliases_over (k + 1) es over.1)

pub ordered_at : (n k i : ℕ) (es : List Expression) (d : Expression) → AreOverFrom k n es → i < length es →
    IsOver (k + i) n (get_or es i d)
ordered_at n k i [] d over less = absurd (omega (arith, less))
ordered_at n k zero (e ∷ es) d over less =
    let same : k ≡ k + 0 = omega arith in subst (λ (m : ℕ). IsOver m n e) same over.0
ordered_at n k (suc i) (e ∷ es) d over less =
    let same : k + 1 + i ≡ k + suc i = omega arith in
    subst (λ (m : ℕ). IsOver m n (get_or es i d)) same (ordered_at n (k + 1) i es d over.1 (omega (arith, less)))

pub alias_over : (to : List ℕ) (labels : List Label) (i : ℕ) (d : Label) → IsWithin 64 to →
    AreOrdered (expressions labels) → i < length labels →
    IsOver i 64 (renamed (place_in to) (expression (get_or labels i d)))
alias_over to labels i d within ordered less =
    let at = ordered_at 64 0 i (expressions labels) (expression d) ordered
    (omega (arith, less, length-map labels expression)) in
    let number : 0 + i ≡ i = omega arith in
    over_renamed (place_in to) 64 64 within i (expression (get_or labels i d))
    (subst (λ (k : ℕ). IsOver k 64 (expression (get_or labels i d))) number
    (subst (λ (e : Expression). IsOver (0 + i) 64 e) (get_or-map expression labels i d (expression d) less) at))
