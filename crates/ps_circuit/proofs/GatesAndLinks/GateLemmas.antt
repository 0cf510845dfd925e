-- Lemmas about the gates of a circuit builder, before and after a gate is added.
use Rattle.std.proofs.Common.{◌≡◌, ◌∙◌, ℕ, ◌+◌, ◌-◌, ◌*◌, ◌/◌, ◌%◌, ◌^◌, ◌<◌, ◌≤◌, ◌&&◌, ◌||◌, Bool, true, false, not}
use Rattle.std.proofs.Common.{cond, eqb, [], ◌∷◌, ◌++◌, length, length-append, get_or, slice_get, Some, refl, sym, ap}
use Rattle.std.proofs.Common.{List, None, Option, ap₂, subst, arith, inl, inr, ◌⊎◌, Result, Err, IsErrAnd, rules}
use Rattle.ps_circuit.specs.declared.encode_fault.EncodeFault.{EncodeFault}
use Rattle.std.specs.List.{list_any}
use Rattle.std.specs.Option.{is_some}
use Rattle.std.proofs.Math.Bool.{not-not}
use Rattle.std.proofs.lemmas.Bool.{eqb-true, eq-eqb, cases_eq, cases_Bool, and_parts, and_from}
use Rattle.std.proofs.lemmas.List.Folds.{list_any_at, list_any_none}
use Rattle.std.proofs.lemmas.Option.{slice_get_within, slice_get-get_or, get_or_from_slice_get}
use Rattle.ps_keys.specs.Keys.{IsLastEqual, IsPlacedKey, LacksFrom}
use Rattle.ps_components.proofs.Places.{slice_get-append_left, slice_get-push, slice_get-push_cases}
use Rattle.ps_circuit.specs.declared.builder.Sides.{Sides}
use Rattle.ps_circuit.specs.contracts.builder.SidesPartialEq.TheImpl as sides_eq
use Rattle.ps_circuit.specs.Literals.{variable, negated}
use Rattle.ps_circuit.specs.Building.{Drafted, AreSides, Extends, IsFull, IsHeld, IsSoundDraft}
use Rattle.ps_circuit.specs.Building.{MeetsEquations}
use Rattle.ps_circuit.specs.Building.{bit, variables_of}

-- a truth value is true or false
pub bool_cases : (truth : Bool) → (truth ≡ true) ⊎ (truth ≡ false)
bool_cases b = cases_Bool b

-- the truth values `true` and `false` differ
pub true_is_not_false : true ≡ false → ⊥
true_is_not_false e = cc

pub sides_are : (a b : Sides) → a.first ≡ b.first → a.second ≡ b.second → a ≡ b
sides_are a b e f = ap₂ (λ x y. record { first = x; second = y }) e f

pub same_sides : {a b : Sides} → (sides_eq.eq-value).it a b ≡ true → a ≡ b
same_sides {a} {b} e = search (rules, and_parts, sides_are, eqb-true)

pub sides_same : (a : Sides) → (sides_eq.eq-value).it a a ≡ true
sides_same a = search (rules, and_from, eq-eqb)

pub bit-plain : (v : ℕ → Bool) (n : ℕ) → bit v (2 * n) ≡ v n
bit-plain v n = search rules

bit_odd : (v : ℕ → Bool) (n : ℕ) → bit v (2 * n + 1) ≡ not (v n)
bit_odd v n = search rules

negated_even : (n : ℕ) → negated (2 * n) ≡ 2 * n + 1
negated_even n = let even : 2 * n % 2 ≡ 0 = omega arith in ap (λ r. cond (eqb r 1) (2 * n - 1) (2 * n + 1)) even

negated_odd : (n : ℕ) → negated (2 * n + 1) ≡ 2 * n
negated_odd n = search rules

-- a literal is either a variable's positive literal or its negation
of_literal : (P : ℕ → Type 0) → ((n : ℕ) → P (2 * n)) → ((n : ℕ) → P (2 * n + 1)) → (l : ℕ) → P l
of_literal P even odd l = elim (cases_eq (l % 2) 1) [
  | inl o ↦ subst P (let e : 2 * (l / 2) + 1 ≡ l = omega arith in e) (odd (l / 2))
  | inr o ↦ subst P (let e : 2 * (l / 2) ≡ l = omega arith in e) (even (l / 2))
]

pub bit-negated : (v : ℕ → Bool) (l : ℕ) → bit v (negated l) ≡ not (bit v l)
bit-negated v l = search (rules, of_literal, negated_even, bit_odd, bit-plain, negated_odd, not-not)

variable-negated : (l : ℕ) → variable (negated l) ≡ variable l
variable-negated l = search (rules, of_literal, negated_even, negated_odd)

pub held-negated : (d : Drafted) (l : ℕ) → IsHeld d l → IsHeld d (negated l)
held-negated d l h = subst (λ n. n ≤ variables_of d) (sym (variable-negated l)) h

-- each gate of a builder is also in this builder, with the same variable, so `Extends` is reflexive
pub extends-refl : (draft : Drafted) → Extends draft draft
extends-refl d = record { given = refl; more = omega arith; same = λ k s e. e }

-- if each gate of `a` is also in `b`, and each gate of `b` in `c`, each gate of `a` is also in `c`, so `Extends` is
-- transitive
pub extends-trans : (first second third : Drafted) → Extends first second → Extends second third → Extends first third
extends-trans a b c x y = search rules

pub held-extends : (a b : Drafted) → Extends a b → (l : ℕ) → IsHeld a l → IsHeld b l
held-extends a b x l h = let p = x.more in let q = x.given in omega arith

pub meets-extends : (a b : Drafted) → Extends a b → (v : ℕ → Bool) → MeetsEquations b v → MeetsEquations a v
meets-extends a b x v m = search rules

-- the builder's gates after one more gate is appended
abbrev pub more : Drafted → Sides → Drafted
more d s = record { given = d.given; gates = d.gates ++ s ∷ [] }

pub extends-more : {d : Drafted} (s : Sides) → Extends d (more d s)
extends-more {d} s = grind (arith, length-append, slice_get-append_left)

absent : (d : Drafted) (s : Sides) → list_any ((sides_eq.eq-value).it s) d.gates ≡ false → (k : ℕ) (t : Sides) →
    slice_get d.gates k ≡ Some t → s ≡ t → ⊥
absent d s none k t e same =
    let within : k < length d.gates = slice_get_within d.gates k t e in
    let at : get_or d.gates k s ≡ t = get_or_from_slice_get d.gates k t s e in
    grind (arith, true_is_not_false, list_any_at, sides_same)

-- the gates after a gate with the two literals was made, if there was none
abbrev pub with_gate : List Sides → Sides → List Sides
with_gate gates s = cond (list_any ((sides_eq.eq-value).it s) gates) gates (gates ++ s ∷ [])

-- no gate has the two literals
pub none_has : (gates : List Sides) (s : Sides) → LacksFrom (sides_eq.eq-value).it gates 0 s →
    list_any ((sides_eq.eq-value).it s) gates ≡ false
none_has gates s lacks = list_any_none ((sides_eq.eq-value).it s) gates (λ k d lt. elim (bool_cases
    ((sides_eq.eq-value).it s (get_or gates k d))) [
      | inl equal ↦ absurd (true_is_not_false (sym (ap (λ t. (sides_eq.eq-value).it t s) (sym (same_sides equal))
          ∙ sides_same s) ∙ lacks k d (omega arith) lt))
      | inr other ↦ other
    ])

pub is_at : (gates : List Sides) (s : Sides) (place : ℕ) → place < length gates →
    ((d : Sides) → (sides_eq.eq-value).it (get_or gates place d) s ≡ true) → slice_get gates place ≡ Some s
is_at gates s place within equal = slice_get-get_or gates place s within ∙ ap (λ t. Some t) (same_sides (equal s))

-- one of the gates has the two literals
pub some_has : (gates : List Sides) (s : Sides) (place : ℕ) → place < length gates →
    ((d : Sides) → (sides_eq.eq-value).it (get_or gates place d) s ≡ true) →
    list_any ((sides_eq.eq-value).it s) gates ≡ true
some_has gates s place within equal = elim (bool_cases (list_any ((sides_eq.eq-value).it s) gates)) [
  | inl there ↦ there
  | inr none ↦ absurd (absent (record { given = 0; gates = gates }) s none place s
      (is_at gates s place within equal) refl)
]

pub has_gate : (gates : List Sides) (s : Sides) (found : Option ℕ) →
    IsLastEqual (sides_eq.eq-value).it gates s found → is_some found ≡ list_any ((sides_eq.eq-value).it s) gates
has_gate gates s None lacks = sym (none_has gates s lacks)
has_gate gates s (Some place) is = sym (some_has gates s place is.0 is.1)

pub gates_are : (old new : List Sides) (s : Sides) (place : ℕ) →
    IsPlacedKey (sides_eq.eq-value).it old new s place → new ≡ with_gate old s
gates_are old new s place is = elim is [
  | inl there ↦ there.0 ∙ sym (ap (λ b. cond b old (old ++ s ∷ [])) (some_has old s place there.1 there.2))
  | inr fresh ↦ fresh.0 ∙ sym (ap (λ b. cond b old (old ++ s ∷ [])) (none_has old s fresh.2))
]

pub gate_is_at : (old new : List Sides) (s : Sides) (place : ℕ) →
    IsPlacedKey (sides_eq.eq-value).it old new s place → slice_get new place ≡ Some s
gate_is_at old new s place is = elim is [
  | inl there ↦ ap (λ gates. slice_get gates place) there.0 ∙ is_at old s place there.1 there.2
  | inr fresh ↦ grind (arith, slice_get-push)
]

sound-more : {d : Drafted} {s : Sides} → IsSoundDraft d → variables_of d + 1 < 2 ^ 31 →
    AreSides (variables_of d + 1) s → list_any ((sides_eq.eq-value).it s) d.gates ≡ false → IsSoundDraft (more d s)
sound-more {d} {s} is room sides none = record {
  room = (let e = length-append d.gates (s ∷ []) in omega arith);
  sides = λ k t e. elim (slice_get-push_cases d.gates s k t e) [
    | inl old ↦ is.sides k t old
    | inr new ↦ grind arith
  ];
  once = grind (arith, slice_get-push_cases, absent);
}

pub drafted_are : (a b : Drafted) → a.given ≡ b.given → a.gates ≡ b.gates → a ≡ b
drafted_are a b e f = ap₂ (λ n g. record { given = n; gates = g }) e f

-- after a call, the builder's gates are well formed, include each earlier gate with the same variable, and have the
-- gate `s` at the index `place`
pub record Placed (old new : Drafted) (s : Sides) (place : ℕ) : Type 0 where
  pub sound : IsSoundDraft new
  pub extends : Extends old new
  pub at : slice_get new.gates place ≡ Some s

pub placed : (old new : Drafted) (s : Sides) (place : ℕ) → IsSoundDraft old → AreSides (variables_of old + 1) s →
    (list_any ((sides_eq.eq-value).it s) old.gates ≡ false → IsFull old → ⊥) →
    new.given ≡ old.given → new.gates ≡ with_gate old.gates s → slice_get new.gates place ≡ Some s →
    Placed old new s place
placed old new s place is sides room given keys at =
    let known = list_any ((sides_eq.eq-value).it s) old.gates in
    elim (bool_cases known) [
      | inl there ↦ grind (arith, extends-refl old)
      | inr none ↦
          let same : new ≡ more old s = grind arith in
          let less : variables_of old + 1 < 2 ^ 31 = grind arith in
          record {
            sound = subst IsSoundDraft (sym same) (sound-more is less sides none);
            extends = subst (Extends old) (sym same) (extends-more s);
            at = at;
          }
    ]

pub placed-bit : (d : Drafted) (s : Sides) (place : ℕ) → slice_get d.gates place ≡ Some s → (v : ℕ → Bool) →
    MeetsEquations d v →
    bit v (2 * (d.given + 1 + place)) ≡ (bit v s.first && bit v s.second)
placed-bit d s place at v m = bit-plain v (d.given + 1 + place) ∙ m.each place s at

pub placed-held : (d : Drafted) (s : Sides) (place : ℕ) → slice_get d.gates place ≡ Some s →
    IsHeld d (2 * (d.given + 1 + place))
placed-held d s place at =
    let within = slice_get_within d.gates place s at in
    let half : 2 * (d.given + 1 + place) / 2 ≡ d.given + 1 + place = omega arith in
    omega (arith, within, half)

de_morgan : (a b : Bool) → not (not a && not b) ≡ (a || b)
de_morgan a b = search (rules, not-not)

pub or_bits : (v : ℕ → Bool) (x y neither : ℕ) {nx ny result : ℕ} → nx ≡ negated x → ny ≡ negated y →
    result ≡ negated neither → bit v neither ≡ (bit v nx && bit v ny) → bit v result ≡ (bit v x || bit v y)
or_bits v x y neither {ny} ex ey er h = search (rules, bit-negated, de_morgan)

choice : (a h l : Bool) → ((a && h) || (not a && l)) ≡ cond a h l
choice a h l = search rules

pub chosen_either : (v : ℕ → Bool) (s h l : ℕ) {ns : ℕ} (high low : ℕ) → ns ≡ negated s →
    bit v high ≡ (bit v s && bit v h) → bit v low ≡ (bit v ns && bit v l) →
    (bit v high || bit v low) ≡ cond (bit v s) (bit v h) (bit v l)
chosen_either v s h l high low e eh el = search (rules, bit-negated, choice)

pub chosen_bits : (v : ℕ → Bool) (s h l : ℕ) {ns : ℕ} (high low result : ℕ) → ns ≡ negated s →
    bit v high ≡ (bit v s && bit v h) → bit v low ≡ (bit v ns && bit v l) → bit v result ≡ (bit v high || bit v low) →
    bit v result ≡ cond (bit v s) (bit v h) (bit v l)
chosen_bits v s h l high low result e eh el er = er ∙ chosen_either v s h l high low e eh el

-- if a function returns the fault of a call unchanged, its fault equals that of the call
pub passed : {X : Type 0} (result : Result X EncodeFault) (fault other : EncodeFault) →
    IsErrAnd result (λ given. given ≡ fault) → result ≡ Err other → fault ≡ other
passed result fault other h k = search rules

pub passed_on : {X Y : Type 0} {call : Result Y EncodeFault} {result : Result X EncodeFault} {fault other : EncodeFault}
    → call ≡ Err fault → IsErrAnd result (λ given. given ≡ fault) → result ≡ Err other → call ≡ Err other
passed_on {result = result} {fault = fault} was is e = was ∙ ap (λ f. Err f) (passed result fault _ is e)
