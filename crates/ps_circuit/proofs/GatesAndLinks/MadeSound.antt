-- If the literals of all variables fit into 32 bits, a builder makes well-formed gates from existing literals, and the
-- resulting literal has the requested value.
use Rattle.std.proofs.Common.{if◌then◌else◌, ◌≡◌, ◌∙◌, ℕ, ◌+◌, ◌^◌, ◌<◌, ◌==◌, ◌&&◌, ◌||◌, rules}
use Rattle.std.proofs.Common.{Bool, true, false, not, cond, nat_lt, refl, ap, arith}
use Rattle.std.specs.List.{list_any}
use Rattle.std.proofs.lemmas.Bool.{and_parts, cases_eq, eq-eqb, eqb-false, eqb-true, ltb-false, ltb-true, or_cases}
use Rattle.std.proofs.lemmas.Bool.{or_parts}
use Rattle.std.proofs.Math.Bool.{and-true, and_self, and_comm}
use Rattle.std.proofs.lemmas.Option.{slice_get_within}
use Rattle.ps_circuit.specs.declared.builder.Sides.{Sides}
use Rattle.ps_circuit.specs.Building.{Drafted, AreSides, Extends, IsFull, IsHeld, IsSoundDraft, MeetsEquations, bit}
use Rattle.ps_circuit.specs.Building.{variables_of}
use Rattle.ps_circuit.specs.Literals.{negated, variable}
use Rattle.ps_circuit.specs.Gates.{Made, has_sides, gate_of, and_of, or_of, chosen_of, mux_of}
use Rattle.ps_circuit.proofs.GatesAndLinks.GateLemmas.{bit-negated, chosen_bits, held-extends, held-negated}
use Rattle.ps_circuit.proofs.GatesAndLinks.GateLemmas.{meets-extends, or_bits}
use Rattle.ps_circuit.proofs.GatesAndLinks.GateLemmas.{placed, placed-bit}
use Rattle.ps_circuit.proofs.GatesAndLinks.MadeLemmas.{above-new, and-extends, gate_at, or-extends, place_of}

-- the literals of all variables fit into 32 bits
abbrev pub HasRoom : Drafted → Type 0
HasRoom d = variables_of d < 2 ^ 31

pub room-before : (d e : Drafted) → Extends d e → HasRoom e → HasRoom d
room-before d e x room = let p = x.more in let q = x.given in omega arith

-- the gates are well formed, and the returned literal has the requested value whenever the variables' values satisfy
-- the equations of the gates
pub record IsMade (m : Made) (wanted : (ℕ → Bool) → Bool) : Type 0 where
  pub sound : IsSoundDraft m.draft
  pub held : IsHeld m.draft m.literal
  pub is : (v : ℕ → Bool) → MeetsEquations m.draft v → bit v m.literal ≡ wanted v

pub made-as : (m : Made) (p q : (ℕ → Bool) → Bool) → ((v : ℕ → Bool) → v 0 ≡ false → p v ≡ q v) → IsMade m p →
    IsMade m q
made-as m p q same made = search rules

-- a literal that was made keeps its value when more gates are added
pub made-later : (m : Made) (p : (ℕ → Bool) → Bool) (e : Drafted) → Extends m.draft e → IsSoundDraft e → IsMade m p →
    IsMade (record { draft = e; literal = m.literal }) p
made-later m p e x sound made = record {
  sound = sound;
  held = held-extends m.draft e x m.literal made.held;
  is = λ v meets. made.is v (meets-extends m.draft e x v meets);
}

-- if the literals of all variables fit into 32 bits, the gates are well formed, and the returned literal has the
-- requested value
pub record Makes (m : Made) (wanted : (ℕ → Bool) → Bool) : Type 0 where
  pub made : HasRoom m.draft → IsMade m wanted

-- no gate is needed if an existing literal has the requested value
there : {d : Drafted} (literal : ℕ) {wanted : (ℕ → Bool) → Bool} → IsSoundDraft d → IsHeld d literal →
    ((v : ℕ → Bool) → v 0 ≡ false → bit v literal ≡ wanted v) → Makes (record { draft = d; literal = literal }) wanted
there literal sound held is = search rules

by_test : {wanted : (ℕ → Bool) → Bool} (b : Bool) (m n : Made) → (b ≡ true → Makes m wanted) →
    (b ≡ false → Makes n wanted) → Makes (if b then m else n) wanted
by_test b m n h k = search rules

seen_as : {m : Made} {p : (ℕ → Bool) → Bool} (q : (ℕ → Bool) → Bool) → Makes m p →
    ((v : ℕ → Bool) → v 0 ≡ false → p v ≡ q v) → Makes m q
seen_as {m} {p} q makes same = record { made = λ room. made-as m p q same (makes.made room) }

-- ## One gate

gate_makes : {d : Drafted} (x y : ℕ) → IsSoundDraft d → AreSides (variables_of d + 1) (record { first = x; second = y })
    → Makes (gate_of d (record { first = x; second = y })) (λ v. bit v x && bit v y)
unfolding gate_of
gate_makes {d} x y sound sides = record {
  made = λ room.
      let s : Sides = record { first = x; second = y } in
      let new : Drafted = (gate_of d s).draft in
      let place = place_of d s in
      let full : list_any (has_sides s) d.gates ≡ false → IsFull d → ⊥ = search (rules, above-new) in
      let p = placed d new s place sound sides full refl refl (gate_at d) in
      record {
        sound = p.sound;
        held = search (rules, slice_get_within, d.given);
        is = λ v meets. placed-bit new s place p.at v meets;
      };
}

-- ## Conjunctions

-- two literals of the same variable are equal, unless each is the other's negation
one_variable : {x y : ℕ} → (x ≡ negated y → ⊥) → variable x ≡ variable y → x ≡ y
one_variable {x} {y} other same = search (rules, cases_eq, eq-eqb)

second_is : (x y : ℕ) → (x == 1 || x == y) ≡ true → (v : ℕ → Bool) → v 0 ≡ false → bit v y ≡ (bit v x && bit v y)
second_is x y e v zero = search (rules, or_cases, eqb-true, and_self)

first_is : (x y : ℕ) → (y == 1) ≡ true → (v : ℕ → Bool) → v 0 ≡ false → bit v x ≡ (bit v x && bit v y)
first_is x y e v zero = search (rules, and-true, eqb-true)

-- neither of the two literals is constant, and their variables differ
record Differ (x y : ℕ) : Type 0 where
  first : x ≡ 0 → ⊥
  second : y ≡ 0 → ⊥
  first_varies : x ≡ 1 → ⊥
  second_varies : y ≡ 1 → ⊥
  different : variable x ≡ variable y → ⊥

differ : (x y : ℕ) → (x == 0 || y == 0 || x == negated y) ≡ false → (x == 1 || x == y) ≡ false → (y == 1) ≡ false →
    Differ x y
differ x y a b c = search (rules, or_parts, eqb-false, one_variable)

and_makes : {d : Drafted} (x y : ℕ) → IsSoundDraft d → IsHeld d x → IsHeld d y →
    Makes (and_of d x y) (λ v. bit v x && bit v y)
unfolding and_of
and_makes x y sound hx hy = by_test (x == 0 || y == 0 || x == negated y) _ _ (λ e. grind arith)
    (λ a. by_test (x == 1 || x == y) _ _ (λ e. there y sound hy (grind (arith, second_is)))
    (λ b. by_test (y == 1) _ _ (λ e. there x sound hx (grind (arith, first_is))) (λ c. let apart = differ x y a b c in
    by_test (nat_lt y x) _ _ (λ e. search (rules, gate_makes, ltb-true)) (λ e. seen_as (λ v. bit v x && bit v y)
    (search (rules, gate_makes, ltb-false)) (λ v zero. and_comm (bit v y) (bit v x))))))

or_makes : {d : Drafted} (x y : ℕ) → IsSoundDraft d → IsHeld d x → IsHeld d y →
    Makes (or_of d x y) (λ v. bit v x || bit v y)
unfolding or_of
or_makes {d} x y sound hx hy = record {
  made = λ room.
      let neither = and_of d (negated x) (negated y) in
      let m = (and_makes (negated x) (negated y) sound (held-negated d x hx) (held-negated d y hy)).made room in
      record {
        sound = m.sound;
        held = held-negated neither.draft neither.literal m.held;
        is = λ v meets. or_bits v x y neither.literal refl refl refl (m.is v meets);
      };
}

-- ## Choices

chosen_makes : {d : Drafted} (s high low : ℕ) → IsSoundDraft d → IsHeld d s → IsHeld d high → IsHeld d low →
    Makes (chosen_of d s high low) (λ v. cond (bit v s) (bit v high) (bit v low))
unfolding chosen_of
chosen_makes {d} s high low sound hs hh hl = record {
  made = λ room.
      let a = and_of d s high in
      let b = and_of a.draft (negated s) low in
      let o = or_of b.draft a.literal b.literal in
      let xa : Extends d a.draft = and-extends s high in
      let xb : Extends a.draft b.draft = and-extends (negated s) low in
      let xo : Extends b.draft o.draft = or-extends a.literal b.literal in
      let room_b : HasRoom b.draft = room-before b.draft o.draft xo room in
      let first = (and_makes s high sound hs hh).made (room-before a.draft b.draft xb room_b) in
      let second = (and_makes (negated s) low first.sound (held-negated a.draft s (held-extends d a.draft xa s hs))
      (held-extends d a.draft xa low hl)).made room_b in
      let either = (or_makes a.literal b.literal second.sound (grind (arith, held-extends)) second.held).made room in
      record {
        sound = either.sound;
        held = either.held;
        is = λ v meets. (let behind = meets-extends b.draft o.draft xo v meets in
            chosen_bits v s high low a.literal b.literal o.literal refl
            (first.is v (meets-extends a.draft b.draft xb v behind)) (second.is v behind) (either.is v meets));
      };
}

-- the values of the two constant literals
zero_is : (v : ℕ → Bool) (l : ℕ) → v 0 ≡ false → (l == 0) ≡ true → bit v l ≡ false
zero_is v l zero e = ap (bit v) (eqb-true l 0 e) ∙ zero

one_is : (v : ℕ → Bool) (l : ℕ) → v 0 ≡ false → (l == 1) ≡ true → bit v l ≡ true
one_is v l zero e = ap (bit v) (eqb-true l 1 e) ∙ ap not zero

by_same : (b : Bool) {x : Bool} → x ≡ cond b x x
by_same b = search rules

by_itself : (b : Bool) → b ≡ cond b true false
by_itself b = search rules

by_other : (b : Bool) → not b ≡ cond b false true
by_other b = search rules

then_true : (b x : Bool) → (b || x) ≡ cond b true x
then_true b x = search rules

else_false : (b x : Bool) → (b && x) ≡ cond b x false
else_false b x = search rules

then_false : (b x : Bool) → (not b && x) ≡ cond b false x
then_false b x = search rules

else_true : (b x : Bool) → (not b || x) ≡ cond b x true
else_true b x = search rules

pub mux-made : (d : Drafted) (s high low : ℕ) → IsSoundDraft d → IsHeld d s → IsHeld d high → IsHeld d low →
    HasRoom (mux_of d s high low).draft → IsMade (mux_of d s high low) (λ v. cond (bit v s) (bit v high) (bit v low))
unfolding mux_of
mux-made d s high low sound hs hh hl room =
    let wanted : (ℕ → Bool) → Bool = λ v. cond (bit v s) (bit v high) (bit v low) in
    let m : Makes (mux_of d s high low) wanted = by_test (high == low) _ _ (λ e. search (
      rules,
      there,
      by_same,
      eqb-true,
    )) (λ _. by_test (high == 1 && low == 0) _ _ (λ e. search (
      rules,
      and_parts,
      there,
      by_itself,
      one_is,
      zero_is,
    )) (λ _. by_test (high == 0 && low == 1) _ _ (λ e. search (
      rules,
      and_parts,
      there,
      held-negated,
      bit-negated,
      by_other,
      zero_is,
      one_is,
    )) (λ _. by_test (high == 1) _ _ (λ e. seen_as wanted (or_makes s low sound hs
    hl) (λ v zero. search (rules, then_true, one_is))) (λ _. by_test (high == 0) _ _ (λ e. seen_as wanted (and_makes
    (negated s) low sound (held-negated d s hs) hl) (λ v zero. search (rules, bit-negated, then_false, zero_is))) (λ _.
    by_test (low == 0) _ _ (λ e. seen_as wanted (and_makes s high sound hs hh) (λ v zero. search (
      rules,
      else_false,
      zero_is,
    ))) (λ _. by_test (low == 1) _ _ (λ e. seen_as wanted (or_makes (negated s) high sound (held-negated d s hs)
    hh) (λ v zero. search (rules, bit-negated, else_true, one_is))) (λ _. search (rules, chosen_makes)))))))) in
    m.made room
