-- The least letters that lead from a state to a key are unique.
-- - `one_least`: a property has only one least letter
-- - `one_first`, `one_second`: so each player has only one least letter for a step
use Rattle.std.specs.Prelude.{◌≡◌, ℕ, zero, suc, ◌^◌, ◌<◌, ◌⊎◌, Bool, true, false}
use Rattle.std.proofs.Common.{sym, ◌∙◌, subst, refl, inl, inr, arith}
use Rattle.std.proofs.lemmas.Bool.{cases_eq}
use Rattle.ps_label.specs.Truth.{is_in}
use Rattle.ps_diagram.specs.Letters.{IsBefore, IsLeastLetter}
use Rattle.ps_diagram.proofs.TreesFromData.Alone.{same_letter}
use Rattle.ps_machine.specs.Boards.{Board, IsFirstLetter}
use Rattle.ps_basis.specs.ArenaMoves.{GoesThere}
use Rattle.ps_basis.specs.Bases.{CanGoTo}
use Rattle.ps_basis.specs.PairOrder.{IsLeastStep}

agree_or_before : (x y n : ℕ) → ((p : ℕ) → p < n → is_in p x ≡ is_in p y) ⊎ (IsBefore x y ⊎ IsBefore y x)
agree_or_before x y zero = inl (λ p less. absurd (omega (arith, less)))
agree_or_before x y (suc n) = elim (agree_or_before x y n) [
  | inr before ↦ inr before
  | inl same ↦ at_bits same (is_in n x) (is_in n y) refl refl
]
  where
    agree : ((p : ℕ) → p < n → is_in p x ≡ is_in p y) → is_in n x ≡ is_in n y → (p : ℕ) → p < suc n →
        is_in p x ≡ is_in p y
    agree same last p less = elim (cases_eq p n) [
      | inl is ↦ subst (λ (k : ℕ). is_in k x ≡ is_in k y) (sym is) last
      | inr differ ↦ same p (omega (arith, less, differ))
    ]

    at_bits : ((p : ℕ) → p < n → is_in p x ≡ is_in p y) → (a b : Bool) → is_in n x ≡ a → is_in n y ≡ b →
        ((p : ℕ) → p < suc n → is_in p x ≡ is_in p y) ⊎ (IsBefore x y ⊎ IsBefore y x)
    at_bits same true true one other = inl (agree same (one ∙ sym other))
    at_bits same false false one other = inl (agree same (one ∙ sym other))
    at_bits same false true one other =
        inr (inl (record { first = n; is_false = one; is_true = other; same = same }))
    at_bits same true false one other =
        inr (inr (record { first = n; is_false = other; is_true = one; same = λ p less. sym (same p less) }))

pub one_least : (n : ℕ) (P : ℕ → Type 0) (x y : ℕ) → x < 2 ^ n → y < 2 ^ n → IsLeastLetter P x → IsLeastLetter P y →
    x ≡ y
one_least n P x y inside within one other = elim (agree_or_before x y n) [
  | inl same ↦ same_letter n x y inside within same
  | inr (inl before) ↦ absurd (other.none_before x one.here before)
  | inr (inr after) ↦ absurd (one.none_before y other.here after)
]

module _ (board : Board) (q r s x y z w : ℕ) (one : IsLeastStep board q r s x y)
    (other : IsLeastStep board q r s z w) where
  pub one_first : x ≡ z
  one_first = one_least board.propositions (λ a. IsFirstLetter board a × CanGoTo board q a r s) x z
      one.first.here.0.within other.first.here.0.within one.first other.first

  pub one_second : y ≡ w
  one_second = one_least board.propositions (GoesThere board q z r s) y w one.second.here.is_letter.within
      other.second.here.is_letter.within
      (subst (λ (a : ℕ). IsLeastLetter (GoesThere board q a r s) y) one_first one.second) other.second
