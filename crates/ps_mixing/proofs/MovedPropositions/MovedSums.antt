-- The bits of the sum of two letters, in which no proposition is true in both.
use Rattle.std.specs.Prelude.{◌≡◌, ℕ, ◌+◌, ◌^◌, ◌<◌, ◌||◌, ◌&&◌, Bool, true, false, cond}
use Rattle.std.proofs.Common.{refl, sym, ap, ◌∙◌, inl, inr, arith}
use Rattle.std.proofs.lemmas.Bool.{cases_lt}
use Rattle.ps_label.specs.Truth.{is_in}
use Rattle.ps_diagram.specs.Letters.{letter_of}
use Rattle.ps_diagram.proofs.TreesFromData.Alone.{same_letter}
use Rattle.ps_diagram.proofs.NodeTables.Cells.{bool_cases}
use Rattle.ps_diagram.proofs.Letters.{letter_is, letter_lt, no_bit}
use Rattle.ps_machine.specs.Boards.{Board, IsFirstLetter, IsSecondLetter}
use Rattle.ps_machine.proofs.AutomatonGames.BoardLetters.{sum_of}

sum_step : (a b : Bool) (k l m s : ℕ) → (a && b) ≡ false → k + l ≡ m →
    (k + cond a s 0) + (l + cond b s 0) ≡ m + cond (a || b) s 0
sum_step true true k l m s apart same = absurd (cc apart)
sum_step true false k l m s apart same = omega (arith, same)
sum_step false true k l m s apart same = omega (arith, same)
sum_step false false k l m s apart same = omega (arith, same)

number_is : (n x : ℕ) → x < 2 ^ n → x ≡ letter_of n (λ p. is_in p x)
number_is n x lt = same_letter n x (letter_of n (λ p. is_in p x)) lt (letter_lt n (λ p. is_in p x))
    (λ p less. sym (letter_is n (λ q. is_in q x) p less))

module _ (n x y : ℕ) (within_x : x < 2 ^ n) (within_y : y < 2 ^ n)
    (apart : (p : ℕ) → (is_in p x && is_in p y) ≡ false) where
  abbrev either : ℕ → Bool
  either p = is_in p x || is_in p y

  sum_is : x + y ≡ letter_of n either
  sum_is = ap (λ (k : ℕ). k + y) (number_is n x within_x) ∙ ap (λ (k : ℕ). letter_of n (λ p. is_in p x) + k)
      (number_is n y within_y) ∙ sum_of n (λ p. is_in p x) (λ p. is_in p y) apart

  either_beyond : (p : ℕ) → is_in p x ≡ false → is_in p y ≡ false → either p ≡ false
  either_beyond p one other = ap (λ (b : Bool). b || is_in p y) one ∙ other

  bit_of_sum : (p : ℕ) → is_in p (x + y) ≡ either p
  bit_of_sum p = ap (is_in p) sum_is ∙ elim (cases_lt p n) [
    | inl less ↦ letter_is n either p less
    | inr more ↦ no_bit n (letter_of n either) p (letter_lt n either) more ∙
        sym (either_beyond p (no_bit n x p within_x more) (no_bit n y p within_y more))
  ]

pub sum_bit : (board : Board) (x y p : ℕ) → IsFirstLetter board x → IsSecondLetter board y →
    is_in p (x + y) ≡ (is_in p x || is_in p y)
sum_bit board x y p first second = bit_of_sum board.propositions x y first.within second.within apart p
  where
    none_left : (a b : Bool) → a ≡ false → (a && b) ≡ false
    none_left a b none = ap (λ (c : Bool). c && b) none

    none_right : (a b : Bool) → b ≡ false → (a && b) ≡ false
    none_right true b none = none
    none_right false b none = refl

    apart : (q : ℕ) → (is_in q x && is_in q y) ≡ false
    apart q = elim (bool_cases (board.is_first q)) [
      | inl own ↦ none_right (is_in q x) (is_in q y) (second.own q own)
      | inr other ↦ none_left (is_in q x) (is_in q y) (first.own q other)
    ]
