-- The order of letters: a property that holds for some letter holds for a least letter. The sum of two letters that
-- have no proposition in common is a letter.
use Rattle.std.proofs.Common.{◌≡◌, ℕ, zero, suc, ◌+◌, ◌/◌, ◌^◌, ◌<◌, ◌≤◌, ◌⊎◌, inl, inr, Bool, true, false, cond}
use Rattle.std.proofs.Common.{List, ap, sym, ◌∙◌, arith, rules, nat_eq}
use Rattle.std.specs.List.{Contains, list_any}
use Rattle.std.specs.Cmp.{nat_eq_equiv}
use Rattle.std.specs.Int.{bit_at}
use Rattle.std.proofs.lemmas.Bool.{cases_Bool, cases_eq, cases_lt, eqb-true}
use Rattle.std.proofs.lemmas.Bool.Decides.{nat_tests}
use Rattle.std.proofs.lemmas.Map.Views.{Contains-from_any, list_any-from_Contains}
use Rattle.std.proofs.lemmas.Nat.Bits.{bit_at-suc, bit_at_lowest, bit_at-lt}
use Rattle.std.proofs.Math.Nat.{pow-suc}
use Rattle.ps_label.specs.Truth.{is_in}
use Rattle.ps_diagram.specs.Letters.{IsBefore, IsLeastLetter}
use Rattle.ps_diagram.proofs.Letters.{no_bit}
use Rattle.ps_automaton.proofs.AdmittedFiles.Deciding.{some_or_none}

-- ## The order

-- how many letters over the n propositions from `from` on come before y
pub rank : ℕ → ℕ → ℕ → ℕ
rank from zero y = 0
rank from (suc n) y = cond (is_in from y) (2 ^ n) 0 + rank (from + 1) n y

twice : (n : ℕ) → 2 ^ suc n ≡ 2 ^ n + 2 ^ n
twice n = omega (arith, pow-suc 2 n)

bit_more : (b : Bool) (n r : ℕ) → r < 2 ^ n → cond b (2 ^ n) 0 + r < 2 ^ suc n
bit_more b n r h = search (rules, twice)

pub rank_lt : (from n y : ℕ) → rank from n y < 2 ^ n
unfolding rank
rank_lt from zero y = omega arith
rank_lt from (suc n) y = bit_more (is_in from y) n (rank (from + 1) n y) (rank_lt (from + 1) n y)

bit_decides : (b c : Bool) (n r s : ℕ) → b ≡ false → c ≡ true → r < 2 ^ n → cond b (2 ^ n) 0 + r < cond c (2 ^ n) 0 + s
bit_decides b c n r s h k m = search rules

bit_alike : {b c : Bool} (n r s : ℕ) → b ≡ c → r < s → cond b (2 ^ n) 0 + r < cond c (2 ^ n) 0 + s
bit_alike {b} {c} n r s e h = search rules

rank_rises : (from n x y first : ℕ) → from ≤ first → first < from + n → is_in first x ≡ false → is_in first y ≡ true →
    ((p : ℕ) → p < first → is_in p x ≡ is_in p y) → rank from n x < rank from n y
unfolding rank
rank_rises from zero x y first low high one other same = absurd (omega arith)
rank_rises from (suc n) x y first low high one other same = elim (cases_eq from first) [
  | inl here ↦ search (rules, bit_decides, rank, rank_lt)
  | inr later ↦ bit_alike n (rank (from + 1) n x) (rank (from + 1) n y) (same from (omega arith))
      (rank_rises (from + 1) n x y first (omega arith) (omega arith) one other same)
]

pub true_is_within : (n y p : ℕ) → y < 2 ^ n → is_in p y ≡ true → p < n
true_is_within n y p within is = search (rules, cases_lt, no_bit)

pub before_ranks : (n : ℕ) {x y : ℕ} → y < 2 ^ n → IsBefore x y → rank 0 n x < rank 0 n y
before_ranks n {x} {y} within before = search (rules, true_is_within, rank_rises)

goes_down : (n : ℕ) (P : ℕ → Type 0) → ((y : ℕ) → P y → y < 2 ^ n) → ((y : ℕ) → IsLeastLetter P y → ⊥) → (bound y : ℕ) →
    P y →
    rank 0 n y < bound → ⊥
goes_down n P within none zero y here small = absurd (omega arith)
goes_down n P within none (suc bound) y here small = none y (record {
  here = here;
  none_before = λ x at before.
      let lower = before_ranks n (within y here) before in
      goes_down n P within none bound x at (omega arith);
})

-- if no letter is the least letter with a property, no letter has the property
pub none_without_least : (n : ℕ) (P : ℕ → Type 0) → ((y : ℕ) → P y → y < 2 ^ n) → ((y : ℕ) → IsLeastLetter P y → ⊥) →
    (y : ℕ) → P y → ⊥
none_without_least n P within none y here = goes_down n P within none (rank 0 n y + 1) y here (omega arith)

-- ## The least letter

down_to_least : (n : ℕ) (P : ℕ → Type 0) → ((y : ℕ) → P y ⊎ (P y → ⊥)) → ((y : ℕ) → P y → y < 2 ^ n) → (bound y : ℕ) →
    P y → rank 0 n y < bound → (z : ℕ) × IsLeastLetter P z
down_to_least n P tell within zero y here small = absurd (omega arith)
down_to_least n P tell within (suc bound) y here small =
    elim (some_or_none Lower lower_or_not (2 ^ n) (λ x lower. within x lower.0)) [
      | inl lower ↦ down_to_least n P tell within bound lower.0 lower.1.0 (omega (arith, small, lower.1.1))
      | inr none ↦ (
        y,
        grind (arith, before_ranks),
      )
    ]
  where
    Lower : ℕ → Type 0
    Lower x = P x × (rank 0 n x < rank 0 n y)

    lower_or_not : (x : ℕ) → Lower x ⊎ (Lower x → ⊥)
    lower_or_not x = search (rules, cases_lt, rank)

-- if a decidable property holds for some letter, there is a least letter with this property
pub least_there : (n : ℕ) (P : ℕ → Type 0) → ((y : ℕ) → P y ⊎ (P y → ⊥)) → ((y : ℕ) → P y → y < 2 ^ n) → (y : ℕ) → P y →
    (z : ℕ) × IsLeastLetter P z
least_there n P tell within y here = down_to_least n P tell within (rank 0 n y + 1) y here (omega arith)

-- ## Sums

bits_apart : (a b : ℕ) → a < 2 → b < 2 → (nat_eq a 1 ≡ true → nat_eq b 1 ≡ false) → a + b < 2
bits_apart a b h k apart = grind (arith, nat_tests)

pub half_bit : (x p : ℕ) → is_in p (x / 2) ≡ is_in (suc p) x
half_bit x p = ap (λ n. nat_eq n 1) (sym (bit_at-suc x p))

half_within : (n x : ℕ) → x < 2 ^ suc n → x / 2 < 2 ^ n
half_within n x within = omega (arith, twice n, within)

pub sum_within : (n x y : ℕ) → x < 2 ^ n → y < 2 ^ n → ((p : ℕ) → is_in p x ≡ true → is_in p y ≡ false) → x + y < 2 ^ n
sum_within zero x y a b apart = omega arith
sum_within (suc n) x y a b apart =
    let halves : x / 2 + y / 2 < 2 ^ n = sum_within n (x / 2) (y / 2) (half_within n x a) (half_within n y b)
    (λ p is. half_bit y p ∙ apart (suc p) (sym (half_bit x p) ∙ is)) in
    grind (
      arith,
      bits_apart (bit_at x 0) (bit_at y 0) (bit_at-lt x 0) (bit_at-lt y 0) (apart 0),
      bit_at_lowest x,
      bit_at_lowest y,
    )

-- ## Lists

-- it is decidable whether a number is in a list
pub contained_or_not : (xs : List ℕ) (x : ℕ) → Contains xs x ⊎ (Contains xs x → ⊥)
contained_or_not xs x = elim (cases_Bool (list_any (nat_eq x) xs)) [
  | inl is ↦ inl (Contains-from_any (λ a b h. eqb-true a b h) x xs is)
  | inr isnt ↦ inr (λ c. cc (list_any-from_Contains nat_eq_equiv x xs c))
]
