-- Lemmas about letters over given propositions, and about the bits of numbers.
use Rattle.std.proofs.Common.{rules, ◌≡◌, ◌∙◌, ℕ, zero, suc, ◌+◌, ◌-◌, ◌*◌, ◌/◌, ◌%◌, ◌^◌, ◌<◌, ◌≤◌, Bool, true, false}
use Rattle.std.proofs.Common.{cond, nat_eq, List, [], ◌∷◌, length, get_or, refl, ap, arith, inl}
use Rattle.std.proofs.Common.{inr}
use Rattle.std.specs.Int.{bit_at}
use Rattle.std.proofs.Math.Nat.{add-mul, pow-suc}
use Rattle.std.proofs.lemmas.Bool.{eqb-true, eq-eqb, cases_eq, cases_lt}
use Rattle.std.proofs.lemmas.Nat.{pow-add}
use Rattle.std.proofs.lemmas.Nat.Bits.{bit_at_cat_low, bit_at_cat_high, bit_at_above}
use Rattle.ps_label.specs.Truth.{is_in}
use Rattle.ps_diagram.specs.Letters.{letter_of}
use Rattle.ps_diagram.proofs.Letters.{letter_lt, letter_is, top_bit, lower_bit}
use Rattle.ps_aiger.specs.Encoded.{letter_over, number_of_bits}
pub use Rattle.ps_machine.specs.BitMachines.{bit_for}
use Rattle.ps_machine.proofs.Machines.BitLetters.{AreFrom, from-tail}
use Rattle.ps_circuit.proofs.GatesAndLinks.GateLemmas.{bool_cases}

pub no_test : (a b : ℕ) → (a ≡ b → ⊥) → nat_eq a b ≡ false
no_test a b ne = elim (bool_cases (nat_eq a b)) [ inl e ↦ absurd (ne (eqb-true a b e)) | inr e ↦ e ]

-- ## Letters

power : (p m : ℕ) → m ≤ p → 2 ^ p ≡ 2 ^ (p - m) * 2 ^ m
power p m le = ap (λ n. 2 ^ n) (let e : p ≡ p - m + m = omega arith in e) ∙ pow-add 2 (p - m) m

one_multiple : (b : Bool) (p m : ℕ) → m ≤ p → cond b (2 ^ p) 0 ≡ cond b (2 ^ (p - m)) 0 * 2 ^ m
one_multiple b p m le = grind (arith, power)

multiple_more : (m p : ℕ) (b : Bool) (ps : List ℕ) (bits : List Bool) → m ≤ p →
    ((n : ℕ) × (letter_over ps bits ≡ n * 2 ^ m)) → (n : ℕ) × (cond b (2 ^ p) 0 + letter_over ps bits ≡ n * 2 ^ m)
multiple_more m p b ps bits le rest =
    grind (arith, one_multiple b p m le, add-mul (cond b (2 ^ (p - m)) 0) rest.0 (2 ^ m))

-- a letter in which only propositions from number m on are true is, as a number, a multiple of 2^m
multiple : (m : ℕ) (ps : List ℕ) (bits : List Bool) → AreFrom m ps → (n : ℕ) × (letter_over ps bits ≡ n * 2 ^ m)
multiple m [] bits a = (0, omega arith)
multiple m (p ∷ ps) [] a = (0, omega arith)
multiple m (p ∷ ps) (b ∷ bits) a = multiple_more m p b ps bits (a.from 0 (omega arith))
    (multiple m ps bits (record { from = λ k lt. a.from (suc k) (omega arith); rise = (from-tail m p ps a).rise }))

no_bits : (q : ℕ) → is_in q 0 ≡ false
no_bits q = ap (λ n. nat_eq n 1) (bit_at_above 0 0 q (omega arith) (omega arith))

-- the bits of a sum of 2^p (or 0) and a multiple of a greater power of 2
pub positive : (n : ℕ) → 0 < 2 ^ n
positive zero = omega arith
positive (suc n) = omega (arith, pow-suc 2 n, positive n)

one_small : (b : Bool) (p : ℕ) → cond b (2 ^ p) 0 < 2 ^ (p + 1)
one_small b p = grind (arith, pow-suc 2 p, positive p)

one_here : (b : Bool) (p : ℕ) → is_in p (cond b (2 ^ p) 0) ≡ b
one_here true p = ap (is_in p) (let e : 2 ^ p ≡ 0 + 2 ^ p = omega arith in e) ∙ top_bit p 0 (positive p)
one_here false p = no_bits p

one_below : (b : Bool) (p q : ℕ) → q < p → is_in q (cond b (2 ^ p) 0) ≡ false
one_below true p q lt = ap (is_in q) (let e : 2 ^ p ≡ 0 + 2 ^ p = omega arith in e) ∙ lower_bit p 0 q lt ∙ no_bits q
one_below false p q lt = no_bits q

turned : (c x : ℕ) → c + x ≡ x + c
turned c x = omega arith

bit_low : (b : Bool) (p n q : ℕ) → q < p + 1 → is_in q (cond b (2 ^ p) 0 + n * 2 ^ (p + 1)) ≡ is_in q (cond b (2 ^ p) 0)
bit_low b p n q lt = ap (λ x. nat_eq x 1) (ap (λ x. bit_at x q) (turned (cond b (2 ^ p) 0) (n * 2 ^ (p + 1)))
    ∙ bit_at_cat_low n (p + 1) (cond b (2 ^ p) 0) q lt)

bit_high : (b : Bool) (p n q : ℕ) → p + 1 ≤ q → is_in q (cond b (2 ^ p) 0 + n * 2 ^ (p + 1)) ≡ is_in q (n * 2 ^ (p + 1))
bit_high b p n q le = grind (
  arith,
  turned (cond b (2 ^ p) 0) (n * 2 ^ (p + 1)),
  bit_at_cat_high n (p + 1) (cond b (2 ^ p) 0) q (one_small b p) le,
  bit_at_cat_high n (p + 1) 0 q (one_small false p) le,
)

none_for : (ps : List ℕ) (bits : List Bool) (q : ℕ) → ((k : ℕ) → k < length ps → get_or ps k 0 ≡ q → ⊥) →
    bit_for ps bits q ≡ false
none_for [] bits q h = refl
none_for (p ∷ ps) [] q h = refl
none_for (p ∷ ps) (b ∷ bits) q h = ap (λ t. cond t b (bit_for ps bits q)) (no_test p q (h 0 (omega arith)))
    ∙ none_for ps bits q (λ k lt e. h (suc k) (omega arith) e)

letter_bit_more : (p : ℕ) (b : Bool) (ps : List ℕ) (bits : List Bool) (q n : ℕ) → AreFrom (p + 1) ps →
    letter_over ps bits ≡ n * 2 ^ (p + 1) → is_in q (letter_over ps bits) ≡ bit_for ps bits q →
    is_in q (cond b (2 ^ p) 0 + n * 2 ^ (p + 1)) ≡ cond (nat_eq p q) b (bit_for ps bits q)
letter_bit_more p b ps bits q n later is rest = elim (cases_eq p q) [
  | inl e ↦ grind (arith, bit_low, one_here, eq-eqb)
  | inr ne ↦ elim (cases_lt q p) [
    | inl lt ↦ grind (arith, bit_low, one_below, no_test, none_for)
    | inr le ↦ grind (arith, bit_high, no_test)
  ]
]

pub letter_bit : (m : ℕ) (ps : List ℕ) (bits : List Bool) (q : ℕ) → AreFrom m ps →
    is_in q (letter_over ps bits) ≡ bit_for ps bits q
letter_bit m [] bits q a = no_bits q
letter_bit m (p ∷ ps) [] q a = no_bits q
letter_bit m (p ∷ ps) (b ∷ bits) q a =
    let later : AreFrom (p + 1) ps = from-tail m p ps a in
    let rest = multiple (p + 1) ps bits later in
    search (rules, letter_bit_more, letter_bit (p + 1) ps bits q later)

-- a strictly ascending list of numbers from m to n - 1 has at most n - m entries
pub few_rise : (m n : ℕ) (ps : List ℕ) → AreFrom m ps → ((k : ℕ) → k < length ps → get_or ps k 0 < n) → m ≤ n →
    length ps + m ≤ n
few_rise m n [] a below le = omega arith
few_rise m n (p ∷ ps) a below le =
    let here : p < n = below 0 (omega arith) in
    let low : m ≤ p = a.from 0 (omega arith) in
    let rest : length ps + (p + 1) ≤ n =
    few_rise (p + 1) n ps (from-tail m p ps a) (λ k lt. below (suc k) (omega arith)) (omega arith) in
    omega arith

-- ## Numbers

first_bit : (n : ℕ) → cond (is_in 0 n) 1 0 ≡ n % 2
first_bit n = grind (arith, cases_eq, eq-eqb, no_test)

later_bit : (j n : ℕ) → is_in (suc j) n ≡ is_in j (n / 2)
later_bit j n = grind (arith, bit_at_cat_high (n / 2) 1 (n % 2) (suc j) (omega arith) (omega arith))

-- a number is determined by its bits
pub number_is : (bits : List Bool) (n : ℕ) → n < 2 ^ length bits →
    ((j : ℕ) → j < length bits → get_or bits j false ≡ is_in j n) → number_of_bits bits ≡ n
number_is [] n lt h = omega arith
number_is (b ∷ bits) n lt h =
    let here : cond b 1 0 ≡ n % 2 = ap (λ t. cond t 1 0) (h 0 (omega arith)) ∙ first_bit n in
    let small : n / 2 < 2 ^ length bits = omega (arith, pow-suc 2 (length bits)) in
    let rest : number_of_bits bits ≡ n / 2 = number_is bits (n / 2) small (λ j within. grind (arith, later_bit j n)) in
    omega arith

-- the number that a list of bits denotes, lowest bit first, is the letter with these bits
pub number_of_letter : (bits : List Bool) (f : ℕ → Bool) → ((j : ℕ) → j < length bits → get_or bits j false ≡ f j) →
    number_of_bits bits ≡ letter_of (length bits) f
number_of_letter bits f h = search (rules, number_is, letter_lt, letter_is)
