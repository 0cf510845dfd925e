-- Lemmas about a builder's gates: a gate that was made remains, and making a gate a second time finds the existing one.
use Rattle.std.proofs.Common.{◌≡◌, ◌∙◌, ℕ, ◌+◌, ◌*◌, ◌<◌, ◌≤◌, ◌==◌, ◌&&◌, Bool, true, false, cond, rules}
use Rattle.std.proofs.Common.{if◌then◌else◌, [], ◌∷◌, ◌++◌, length, length-append, get_or, slice_get, Some, refl, sym}
use Rattle.std.proofs.Common.{ap, ap₂, arith, inl, inr}
use Rattle.std.specs.List.{list_any, position_or_len}
use Rattle.std.proofs.lemmas.Bool.{cases_lt, eq-eqb}
use Rattle.std.proofs.lemmas.List.Folds.{list_any_at, list_any_none}
use Rattle.std.proofs.lemmas.List.Sums.{position_or_len_is, fails_before_first, passes_at_first}
use Rattle.std.proofs.lemmas.Option.{slice_get_within, slice_get-get_or, get_or_from_slice_get}
use Rattle.ps_components.proofs.Places.{slice_get-push}
use Rattle.ps_circuit.specs.declared.builder.Sides.{Sides}
use Rattle.ps_circuit.specs.Building.{Drafted, Extends, variables_of}
use Rattle.ps_circuit.specs.Literals.{negated}
use Rattle.ps_circuit.specs.Gates.{Made, has_sides, gate_of, and_of, or_of, chosen_of, mux_of}
use Rattle.ps_circuit.proofs.GatesAndLinks.GateLemmas.{bool_cases, true_is_not_false, extends-refl, extends-trans}
use Rattle.ps_circuit.proofs.GatesAndLinks.GateLemmas.{extends-more}
use Rattle.ps_circuit.proofs.GatesAndLinks.GateLemmas.{same_sides, sides_same, drafted_are, Placed, with_gate}

-- making the same gates again, when all of them exist already, adds no gate and returns the same literal
abbrev pub IsThere : Made → (Drafted → Made) → Drafted → Type 0
IsThere made make e = make e ≡ record { draft = e; literal = made.literal }

abbrev made_with : Drafted → ℕ → Made
made_with d literal = record { draft = d; literal = literal }

made_are : {a b : Made} → a.draft ≡ b.draft → a.literal ≡ b.literal → a ≡ b
made_are e f = ap₂ made_with e f

-- ## One gate

abbrev pub place_of : Drafted → Sides → ℕ
place_of d s = position_or_len (has_sides s) d.gates

absent_place : (d : Drafted) (s : Sides) → list_any (has_sides s) d.gates ≡ false → place_of d s ≡ length d.gates
absent_place d s none = position_or_len_is (has_sides s) d.gates (length d.gates) s (omega arith)
    (λ k lt. grind (arith, bool_cases, true_is_not_false, list_any_at)) (λ lt. absurd (omega arith))

present_place : (d : Drafted) (s : Sides) → list_any (has_sides s) d.gates ≡ true → place_of d s < length d.gates
present_place d s some = search (rules, cases_lt, true_is_not_false, list_any_none, fails_before_first)

pub gate-extends : {d : Drafted} (s : Sides) → Extends d (gate_of d s).draft
unfolding gate_of
gate-extends {d} s = elim (bool_cases (list_any (has_sides s) d.gates)) [
  | inl there ↦ rw there (extends-refl d)
  | inr none ↦ rw none (extends-more s)
]

pub gate_at : (d : Drafted) {s : Sides} → slice_get (gate_of d s).draft.gates (place_of d s) ≡ Some s
unfolding gate_of
gate_at d {s} = elim (bool_cases (list_any (has_sides s) d.gates)) [
  | inl there ↦
      let lt = present_place d s there in
      ap (λ b. slice_get (cond b d.gates (d.gates ++ s ∷ [])) (place_of d s)) there ∙ slice_get-get_or d.gates
      (place_of d s) s lt ∙ ap (λ t. Some t) (sym (same_sides (passes_at_first (has_sides s) d.gates s lt)))
  | inr none ↦ grind (arith, absent_place, slice_get-push)
]

-- a pair of literals is found at an index of the list of gates: no gate before this index has these two literals
gate_first : {d e : Drafted} (s : Sides) → Extends d e → (k : ℕ) → k < place_of d s → place_of d s ≤ length d.gates →
    has_sides s (get_or e.gates k s) ≡ false
gate_first {d} {e} s x k lt within =
    let less : k < length d.gates = omega arith in
    ap (has_sides s) (grind (arith, get_or_from_slice_get, slice_get-get_or))
    ∙ fails_before_first (has_sides s) d.gates k s lt

place_within : (d : Drafted) (s : Sides) → place_of d s ≤ length d.gates
place_within d s = search (rules, bool_cases, present_place, absent_place)

-- if a gate with the same two literals exists, making a gate adds none, and returns the literal of the first such gate
pub gate-found : (e : Drafted) {s : Sides} (place : ℕ) → slice_get e.gates place ≡ Some s →
    ((k : ℕ) → k < place → has_sides s (get_or e.gates k s) ≡ false) →
    gate_of e s ≡ record { draft = e; literal = 2 * (e.given + 1 + place) }
unfolding gate_of
gate-found e {s} place at first =
    let lt = slice_get_within e.gates place s at in
    let passes : has_sides s (get_or e.gates place s) ≡ true = grind (arith, get_or_from_slice_get, sides_same) in
    grind (arith, position_or_len_is, list_any_at)

gate_literal : (d : Drafted) {e : Drafted} (s : Sides) → Extends (gate_of d s).draft e →
    2 * (e.given + 1 + place_of d s) ≡ (gate_of d s).literal
unfolding gate_of
gate_literal d s x = ap (λ g. 2 * (g + 1 + place_of d s)) x.given

pub gate-again : (d : Drafted) {e : Drafted} (s : Sides) → Extends (gate_of d s).draft e →
    IsThere (gate_of d s) (λ t. gate_of t s) e
gate-again d {e} s x =
    let first = gate_first s (extends-trans d (gate_of d s).draft e (gate-extends s) x) in
    let found = gate-found e (place_of d s) (grind (arith, gate_at d)) (λ k lt. first k lt (place_within d s)) in
    found ∙ ap (made_with e) (gate_literal d s x)

-- ## What remains

-- the function `make` keeps the existing gates, and calling it again after its gates exist adds no gate
pub record Lasts (make : Drafted → Made) : Type 0 where
  pub extends : (d : Drafted) → Extends d (make d).draft
  pub again : (d e : Drafted) → Extends (make d).draft e → IsThere (make d) make e

taken_as_is : (literal : ℕ) → Lasts (λ d. made_with d literal)
taken_as_is literal = record { extends = extends-refl; again = λ d e x. refl }

gate_lasts : (s : Sides) → Lasts (λ d. gate_of d s)
gate_lasts s = record { extends = λ d. gate-extends s; again = λ d e x. gate-again d s x }

by_test : (b : Bool) (f g : Drafted → Made) → Lasts f → Lasts g → Lasts (λ d. if b then f d else g d)
by_test b f g h k = search rules

and_lasts : (x y : ℕ) → Lasts (λ d. and_of d x y)
unfolding and_of
and_lasts x y = search (rules, by_test, taken_as_is, gate_lasts)

or_lasts : (x y : ℕ) → Lasts (λ d. or_of d x y)
unfolding or_of
or_lasts x y = grind (arith, and_lasts (negated x) (negated y))

pub and-extends : {d : Drafted} (x y : ℕ) → Extends d (and_of d x y).draft
and-extends {d} x y = (and_lasts x y).extends d

pub or-extends : {d : Drafted} (x y : ℕ) → Extends d (or_of d x y).draft
or-extends {d} x y = (or_lasts x y).extends d

chosen_lasts : (s high low : ℕ) → Lasts (λ d. chosen_of d s high low)
unfolding chosen_of
chosen_lasts s high low = record {
  extends = grind (arith, extends-trans, and-extends, or-extends);
  again = λ d e h.
      let a = and_of d s high in
      let b = and_of a.draft (negated s) low in
      let hb : Extends b.draft e = extends-trans b.draft _ e (or-extends a.literal b.literal) h in
      let ha : Extends a.draft e = extends-trans a.draft b.draft e (and-extends (negated s) low) hb in
      grind (arith, and_lasts s high, and_lasts (negated s) low, or_lasts a.literal b.literal);
}

mux_lasts : (s high low : ℕ) → Lasts (λ d. mux_of d s high low)
unfolding mux_of
mux_lasts s high low = by_test (high == low) _ _ (taken_as_is high)
    (by_test (high == 1 && low == 0) _ _ (taken_as_is s) (by_test (high == 0 && low == 1) _ _ (taken_as_is (negated s))
    (search (rules, by_test, or_lasts, and_lasts, chosen_lasts))))

-- making a multiplexer keeps the existing gates
pub mux-extends : (d : Drafted) (s high low : ℕ) → Extends d (mux_of d s high low).draft
mux-extends d s high low = (mux_lasts s high low).extends d

pub mux-again : (d e : Drafted) (s high low : ℕ) → Extends (mux_of d s high low).draft e →
    IsThere (mux_of d s high low) (λ t. mux_of t s high low) e
mux-again d e s high low x = (mux_lasts s high low).again d e x

pub mux-same : (d : Drafted) (s literal : ℕ) → mux_of d s literal literal ≡ record { draft = d; literal = literal }
unfolding mux_of
mux-same d s literal = rw (eq-eqb literal literal refl) refl

-- ## Too many variables

pub above-extends : (d e : Drafted) → Extends d e → 2147483647 < variables_of d → 2147483647 < variables_of e
above-extends d e x above = let p = x.more in let q = x.given in omega arith

pub above-first : (d : Drafted) (s high low : ℕ) → 2147483647 < variables_of (and_of d s high).draft →
    2147483647 < variables_of (chosen_of d s high low).draft
unfolding chosen_of
above-first d s high low above = search (rules, above-extends, extends-trans, and-extends, or-extends)

pub above-second : (d t : Drafted) (s high low where_true : ℕ) {ns : ℕ} →
    and_of d s high ≡ record { draft = t; literal = where_true } → ns ≡ negated s →
    2147483647 < variables_of (and_of t ns low).draft → 2147483647 < variables_of (chosen_of d s high low).draft
unfolding chosen_of
above-second d t s high low where_true made is above = search (rules, above-extends, or-extends)

pub above-new : (d : Drafted) (s : Sides) → variables_of d ≡ 2147483647 → list_any (has_sides s) d.gates ≡ false →
    2147483647 < variables_of (gate_of d s).draft
unfolding gate_of
above-new d s full none = grind (arith, length-append)

gate_draft : (old : Drafted) {new : Drafted} (s : Sides) → new.given ≡ old.given →
    new.gates ≡ with_gate old.gates s → (gate_of old s).draft ≡ new
unfolding gate_of
gate_draft old {new} s given keys = drafted_are (gate_of old s).draft new (sym given) (sym keys)

-- inserting a gate into the builder's set of gates has the same result as the definition `gate_of`
pub made-placed : {old new : Drafted} {s : Sides} {place : ℕ} → Placed old new s place → new.given ≡ old.given →
    new.gates ≡ with_gate old.gates s →
    gate_of old s ≡ record { draft = new; literal = 2 * (new.given + 1 + place) }
made-placed {old} {new} {s} {place} p given keys =
    let is : (gate_of old s).draft ≡ new = gate_draft old s given keys in
    let found = gate-found new place p.at
    (λ k lt. search (rules, bool_cases, slice_get_within, slice_get-get_or, same_sides)) in
    grind (arith, gate-again, extends-refl, made_are)
