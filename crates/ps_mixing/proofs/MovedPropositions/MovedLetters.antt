-- Letters with their propositions moved: their bits, and that moving back undoes moving.
use Rattle.std.specs.Prelude.{◌≡◌, ℕ, zero, suc, ◌+◌, ◌^◌, ◌<◌, ◌≤◌, Bool, false}
use Rattle.std.proofs.Common.{sym, ◌∙◌, ap, subst, inl, inr, arith}
use Rattle.std.proofs.Math.Nat.{pow-suc, pow-le-pow_right}
use Rattle.std.proofs.lemmas.Bool.{cases_eq, cases_lt}
use Rattle.ps_label.specs.Truth.{is_in}
use Rattle.ps_diagram.specs.Letters.{letter_of}
use Rattle.ps_diagram.proofs.TreesFromData.Alone.{same_letter}
use Rattle.ps_diagram.proofs.Letters.{letter_is, letter_lt, no_bit}
use Rattle.ps_mixing.specs.Mixings.{Mixing, IsMixing, inverse, moved}

-- ## Numbers

small_power : (n : ℕ) → n < 2 ^ n
small_power zero = omega arith
small_power (suc n) = (let before = small_power n in omega (arith, before, pow-suc 2 n))

small_in : (m n x : ℕ) → m ≤ n → x < 2 ^ m → x < 2 ^ n
small_in m n x le lt = let more = pow-le-pow_right {n = 2} (omega arith) le in omega (arith, lt, more)

-- numbers with the same bits are equal
pub same_bits : {x y : ℕ} → ((p : ℕ) → is_in p x ≡ is_in p y) → x ≡ y
same_bits {x} {y} same = same_letter (x + y) x y (small_in x (x + y) x (omega arith) (small_power x))
    (small_in y (x + y) y (omega arith) (small_power y)) (λ p _. same p)

-- ## Mixings

module _ {n : ℕ} {is_first : ℕ → Bool} {mixing : Mixing} (is : IsMixing n is_first mixing) where
  pub from_beyond : (p : ℕ) → n ≤ p → mixing.from p ≡ p
  from_beyond p le = sym (ap mixing.from (is.beyond p le)) ∙ is.back p

  pub to_within : (p : ℕ) → p < n → mixing.to p < n
  to_within p lt = elim (cases_lt (mixing.to p) n) [
    | inl less ↦ less
    | inr more ↦
        let same : mixing.to p ≡ p = sym (from_beyond (mixing.to p) more) ∙ is.back p in
        absurd (omega (arith, same, more, lt))
  ]

-- ## Bits

pub moved_bit : (n : ℕ) (from : ℕ → ℕ) (x p : ℕ) → (n ≤ p → from p ≡ p) → is_in p (moved n from x) ≡ is_in (from p) x
unfolding moved
moved_bit n from x p beyond = elim (cases_lt p (n + x)) [
  | inl less ↦ letter_is (n + x) (λ q. is_in (from q) x) p less
  | inr more ↦ no_bit (n + x) (letter_of (n + x) (λ q. is_in (from q) x)) p (letter_lt (n + x) (λ q. is_in (from q) x))
      more ∙ sym (ap (λ q. is_in q x) (beyond (omega (arith, more))) ∙ no_bit x x p (small_power x) (omega (arith, more)))
]

module _ (n : ℕ) (to from : ℕ → ℕ) (back : (p : ℕ) → from (to p) ≡ p) (from_beyond : (p : ℕ) → n ≤ p → from p ≡ p) where
  bit_renamed : (x p : ℕ) → is_in (to p) (moved n from x) ≡ is_in p x
  bit_renamed x p = moved_bit n from x (to p) (λ le. from_beyond (to p) le) ∙ ap (λ q. is_in q x) (back p)

  there_and_back : ((p : ℕ) → n ≤ p → to p ≡ p) → (x : ℕ) → moved n to (moved n from x) ≡ x
  there_and_back to_beyond x =
      same_bits (λ p. moved_bit n to (moved n from x) p (λ le. to_beyond p le) ∙ bit_renamed x p)

module _ {n : ℕ} {is_first : ℕ → Bool} {mixing : Mixing} (is : IsMixing n is_first mixing) where
  pub inverse_is : IsMixing n (λ p. is_first (mixing.from p)) (inverse mixing)
  inverse_is = record {
    back = is.forth;
    forth = is.back;
    beyond = from_beyond is;
    order = λ p q less same. elim (cases_lt (mixing.from p) (mixing.from q)) [
      | inl before ↦ before
      | inr after ↦ elim (cases_eq (mixing.from p) (mixing.from q)) [
        | inl equal ↦
            let index : p ≡ q = sym (is.forth p) ∙ ap mixing.to equal ∙ is.forth q in
            absurd (omega (arith, index, less))
        | inr differ ↦
            let turned = is.order (mixing.from q) (mixing.from p) (omega (arith, after, differ)) (sym same) in
            absurd (omega (arith, turned, less, is.forth p, is.forth q))
      ]
    ];
  }

  pub renamed_bit : (x p : ℕ) → is_in (mixing.to p) (moved n mixing.from x) ≡ is_in p x
  renamed_bit x p = bit_renamed n mixing.to mixing.from is.back (from_beyond is) x p

  pub moved_back : (x : ℕ) → moved n mixing.to (moved n mixing.from x) ≡ x
  moved_back x = there_and_back n mixing.to mixing.from is.back (from_beyond is) is.beyond x

  pub moved_forth : (x : ℕ) → moved n mixing.from (moved n mixing.to x) ≡ x
  moved_forth x = there_and_back n mixing.from mixing.to is.forth is.beyond (from_beyond is) x

  pub moved_within : (x : ℕ) → x < 2 ^ n → moved n mixing.from x < 2 ^ n
  moved_within x lt = subst (λ (y : ℕ). y < 2 ^ n) (sym (same_bits same)) (letter_lt n (λ q. is_in (mixing.from q) x))
    where
      same : (p : ℕ) → is_in p (moved n mixing.from x) ≡ is_in p (letter_of n (λ q. is_in (mixing.from q) x))
      same p = moved_bit n mixing.from x p (λ le. from_beyond is p le) ∙ elim (cases_lt p n) [
        | inl less ↦ sym (letter_is n (λ q. is_in (mixing.from q) x) p less)
        | inr more ↦ ap (λ q. is_in q x) (from_beyond is p more) ∙ no_bit n x p lt more ∙ sym (no_bit n
            (letter_of n (λ q. is_in (mixing.from q) x)) p (letter_lt n (λ q. is_in (mixing.from q) x)) more)
      ]

pub moved_zero : (n : ℕ) (from : ℕ → ℕ) → ((p : ℕ) → n ≤ p → from p ≡ p) → moved n from 0 ≡ 0
moved_zero n from beyond = same_bits (λ p. moved_bit n from 0 p (λ le. beyond p le) ∙ none (from p) ∙ sym (none p))
  where
    none : (p : ℕ) → is_in p 0 ≡ false
    none p = no_bit 0 0 p (omega arith) (omega arith)
