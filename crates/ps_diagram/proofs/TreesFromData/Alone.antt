-- The decision tree of a single letter, made from the last proposition to the first.
use Rattle.std.proofs.Common.{◌≡◌, ℕ, zero, suc, ◌+◌, ◌-◌, ◌/◌, ◌^◌, ◌<◌, ◌≤◌, Bool, true, false, cond, nat_eq}
use Rattle.std.proofs.Common.{Some, None, ap, sym, ◌∙◌, arith, inl, inr, ◌⊎◌}
use Rattle.std.proofs.lemmas.Bool.{eq-eqb, eqb-true, false_from_ne_true, true_from_ne_false}
use Rattle.std.proofs.lemmas.Nat.Bits.{same_from_bits_below, bit_at-lt, shr_and_one}
use Rattle.std.specs.Int.{bit_at}
use Rattle.std.specs.Prelude.{bit_and}
use Rattle.ps_label.specs.Truth.{is_in}
use Rattle.ps_diagram.specs.Labels.{one_where}
use Rattle.ps_diagram.specs.Letters.{assignment}
use Rattle.ps_diagram.specs.Tree.{Tree, leaf_at, IsBlind, IsTestOf}
use Rattle.ps_diagram.proofs.NodeTables.Cells.{bool_cases, true_is_not_false}

-- The tree reads only propositions from `level` on. The tree has the leaf 1 at each letter that agrees with `letter` on
-- the propositions that are at least `level` and less than n, and no leaf at other letters.
pub record IsAlone (n level letter : ℕ) (t : Tree) : Type 0 where
  pub blind : IsBlind level t
  pub here : (f : ℕ → Bool) → ((q : ℕ) → level ≤ q → q < n → f q ≡ is_in q letter) → leaf_at t f ≡ Some 1
  pub elsewhere : (f : ℕ → Bool) (q : ℕ) → level ≤ q → q < n → (f q ≡ is_in q letter → ⊥) → leaf_at t f ≡ None

pub test_blind : (p : ℕ) (low high t : Tree) → IsTestOf p low high t → IsBlind (p + 1) low →
    IsBlind (p + 1) high → IsBlind p t
test_blind p low high t h bl bh f g e = grind arith

pub empty_blind : (level : ℕ) (t : Tree) → ((f : ℕ → Bool) → leaf_at t f ≡ None) → IsBlind level t
empty_blind level t e f g _ = e f ∙ sym (e g)

-- two truth values are equal or differ
bool_same : (a b : Bool) → (a ≡ b) ⊎ (a ≡ b → ⊥)
bool_same a b = grind (arith, true_is_not_false)

-- one more proposition p is tested: at letters in which p has the same truth value as in `letter`, the new tree has the
-- old tree's leaf; at other letters, it has no leaf
alone_step : {n : ℕ} (p letter : ℕ) (v : Bool) (node made : Tree) → IsAlone n (p + 1) letter node →
    is_in p letter ≡ v → p < n → IsBlind p made → ((f : ℕ → Bool) → f p ≡ v → leaf_at made f ≡ leaf_at node f) →
    ((f : ℕ → Bool) → (f p ≡ v → ⊥) → leaf_at made f ≡ None) → IsAlone n p letter made
alone_step p letter v node made a is below blind on off = record {
  blind = blind;
  here = λ f same. on f (same p (omega arith) below ∙ is) ∙ a.here f (λ q le lt. same q (omega arith) lt);
  elsewhere = λ f q le lt ne. elim (bool_same (f p) v) [
    | inl same ↦
        let not : q ≡ p → ⊥ = λ e. ne (rw e (same ∙ sym is)) in
        on f same ∙ a.elsewhere f q (omega arith) lt ne
    | inr other ↦ off f other
  ];
}

alone_made : {n : ℕ} (p letter : ℕ) (v : Bool) (none node made : Tree) → ((f : ℕ → Bool) → leaf_at none f ≡ None) →
    IsAlone n (p + 1) letter node → is_in p letter ≡ v → p < n →
    IsTestOf p (cond v none node) (cond v node none) made → IsAlone n p letter made
alone_made p letter true none node made e a is below h = alone_step p letter true node made a is below
    (test_blind p none node made h (empty_blind (p + 1) none e) a.blind) (λ f same. rw (h f, same))
    (λ f other. rw (h f, false_from_ne_true (f p) other) (e f))
alone_made p letter false none node made e a is below h = alone_step p letter false node made a is below
    (test_blind p node none made h a.blind (empty_blind (p + 1) none e)) (λ f same. rw (h f, same))
    (λ f other. rw (h f, true_from_ne_false (f p) other) (e f))

alike_or_not : (n : ℕ) (f g : ℕ → Bool) → ((q : ℕ) → q < n → f q ≡ g q) ⊎ ((q : ℕ) × (q < n) × (f q ≡ g q → ⊥))
alike_or_not zero f g = inl (λ q lt. absurd (omega arith))
alike_or_not (suc n) f g = grind (arith, bool_same (f n) (g n), alike_or_not n f g)

bit_same : (a b : ℕ) → a < 2 → b < 2 → nat_eq a 1 ≡ nat_eq b 1 → a ≡ b
bit_same a b la lb e = grind (arith, bool_cases (nat_eq b 1))

pub same_letter : (n a b : ℕ) → a < 2 ^ n → b < 2 ^ n → ((q : ℕ) → q < n → is_in q a ≡ is_in q b) → a ≡ b
same_letter n a b la lb h = same_from_bits_below n a b la lb (λ q lt. grind (arith, bit_same, bit_at-lt))

pub alone_end : {n m level letter : ℕ} {t : Tree} → letter < 2 ^ n → m ≡ n → level ≡ 0 → IsAlone m level letter t →
    (other : ℕ) → other < 2 ^ n → leaf_at t (assignment other) ≡ one_where (nat_eq other letter)
alone_end {n} {letter} lt same done alone other olt =
    let a = rw (same, done) at alone in
    elim (alike_or_not n (assignment other) (assignment letter)) [
      | inl h ↦ grind (arith, eq-eqb other letter (same_letter n other letter olt lt h))
      | inr d ↦ elim (bool_cases (nat_eq other letter)) [
        | inl is ↦ absurd (d.2 (ap (λ x. is_in d.0 x) (eqb-true other letter is)))
        | inr isnt ↦ a.elsewhere (assignment other) d.0 (omega arith) d.1 d.2 ∙ sym (ap one_where isnt)
      ]
    ]

-- each iteration of the loop, which goes through the propositions from the last to the first, adds a test of one more
-- proposition to the tree
pub alone_next : {n m i letter : ℕ} (v : Bool) (none node made : Tree) → m ≡ n → 0 < i → i ≤ n →
    ((f : ℕ → Bool) → leaf_at none f ≡ None) → IsAlone n i letter node → is_in (i - 1) letter ≡ v →
    IsTestOf (i - 1) (cond v none node) (cond v node none) made → IsAlone m (i - 1) letter made
alone_next {n} {m} {i} {letter} v none node made same some le e a is h =
    let next : i ≡ i - 1 + 1 = omega arith in
    rw same (alone_made (i - 1) letter v none node made e (rw next at a) is (omega arith) h)

-- the code's test of a bit of a letter tells whether the proposition is true
pub bit_true : (letter p : ℕ) → bit_and (letter / 2 ^ p) 1 ≡ 1 → is_in p letter ≡ true
bit_true letter p e = eq-eqb (bit_at letter p) 1 (sym (shr_and_one letter p) ∙ e)

pub bit_false : (letter p : ℕ) → (bit_and (letter / 2 ^ p) 1 ≡ 1 → ⊥) → is_in p letter ≡ false
bit_false letter p ne = grind (arith, bool_cases, shr_and_one, eqb-true)
