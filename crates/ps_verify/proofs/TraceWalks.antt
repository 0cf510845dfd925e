-- Step by step, a trace of the circuit and its letters lead from vertex to vertex of the product of circuit and
-- automaton.
-- - `left`: a number for each vertex, made from its count, that falls along each edge to a vertex of the priority `top`
-- - `walk`: from each vertex of the product, a trace and its letters lead to a vertex of the product. On the way there,
--   the number `left` does not rise if no priority exceeds `top`
use Rattle.std.proofs.Common.{◌≡◌, ℕ, ◌+◌, ◌<◌, ◌≤◌, ◌⊎◌, inl, inr, Bool, List, [], ◌∷◌, length, refl, ◌∙◌}
use Rattle.std.proofs.Common.{arith, Some}
use Rattle.std.specs.Prelude.{nat_eq, if◌then◌else◌, slice_get}
use Rattle.std.proofs.lemmas.Bool.{cases_eq, eq-eqb, ne_eqb}
use Rattle.ps_automaton.specs.Autos.{Auto, greatest_along, state_behind}
use Rattle.ps_circuit.specs.Circuits.{CircuitData}
use Rattle.ps_circuit.specs.Values.{Moment, GoesOn}
use Rattle.ps_game.specs.Games.{HasEdge, priority_of}
use Rattle.ps_product.specs.Products.{IsProductOf, Leads, ProductData, ProductVertex}
use Rattle.ps_simulate.specs.Lassos.{AreLetters}
use Rattle.ps_verify.specs.Inner.Rounds.{HasCounts}

module _ {owner : ℕ} {names : List (List ℕ)} {auto : Auto} {c : CircuitData} {p : ProductData}
    (product : IsProductOf owner names auto c p) where
  -- the count of a vertex, plus 1 unless the vertex has the priority `top`; this number falls on each edge into a
  -- vertex of that priority
  abbrev pub left : {top : ℕ} → HasCounts p.game top → ℕ → ℕ
  left {top} counts i = if nat_eq (priority_of p.game i) top then counts.count i else counts.count i + 1

  -- on the walk from i to j, `left` does not rise, and it falls if the greatest priority on the walk is `top`
  pub record Falls {top : ℕ} (counts : HasCounts p.game top) (i j many greatest : ℕ) : Type 0 where
    pub never_rises : left counts j ≤ left counts i
    pub falls : 0 < many → greatest ≡ top → left counts j < left counts i

  step_falls : {top : ℕ} (counts : HasCounts p.game top) (i j : ℕ) → HasEdge p.game i j →
      priority_of p.game i ≤ top → priority_of p.game j ≤ top →
      (left counts j ≤ left counts i) × (priority_of p.game j ≡ top → left counts j < left counts i)
  step_falls {top} counts i j edge low below =
      let rule = counts.keep i j edge in
      grind (
        arith,
        cases_eq (priority_of p.game i) top,
        cases_eq (priority_of p.game j) top,
        eq-eqb (priority_of p.game i) top,
        ne_eqb (priority_of p.game i) top,
        eq-eqb (priority_of p.game j) top,
        ne_eqb (priority_of p.game j) top,
        rule.never_rises,
        rule.falls,
      )

  some_along : (q : ℕ) (letters : List ℕ) → 0 < greatest_along auto q letters → 0 < length letters
  some_along q [] more = absurd (omega arith)
  some_along q (x ∷ xs) more = omega arith

  -- the letters lead from the product's vertex v, which has the index i, to its vertex w, which has the index j
  pub record Walk (i : ℕ) (v : ProductVertex) (letters : List ℕ) (last : List Bool) : Type 0 where
    pub j : ℕ
    pub w : ProductVertex
    pub at : slice_get p.vertices j ≡ Some w
    pub latches : w.latches ≡ last
    pub state : w.state ≡ state_behind auto v.state letters
    pub entered : (top : ℕ) → greatest_along auto v.state letters ≤ top →
        (v.priority ≤ top) ⊎ (0 < length letters) → w.priority ≤ top
    pub falls : (top : ℕ) (counts : HasCounts p.game top) → v.priority ≤ top →
        greatest_along auto v.state letters ≤ top →
        Falls counts i j (length letters) (greatest_along auto v.state letters)

  pub walk : (i : ℕ) (v : ProductVertex) (moments : List Moment) (letters : List ℕ) (last : List Bool) →
      slice_get p.vertices i ≡ Some v → GoesOn c v.latches moments last → AreLetters names c moments letters →
      Walk i v letters last
  walk i v [] [] last at goes are = record {
    j = i;
    w = v;
    at = at;
    latches = goes;
    state = refl;
    entered = λ top below entry. elim entry [ inl low ↦ low | inr some ↦ absurd (omega arith) ];
    falls = λ top counts low below. record { never_rises = omega arith; falls = λ some is. absurd (omega arith) };
  }
  walk i v [] (x ∷ xs) last at goes are = cc
  walk i v (m ∷ ms) [] last at goes are = absurd are
  walk i v (m ∷ ms) (x ∷ xs) last at (next, is, steps, rest) (is_letter, letters) =
      let w : ProductVertex =
      record { latches = next; state = auto.next v.state x; priority = auto.priority v.state x } in
      let leads : Leads names auto c v x w = record {
        inputs = m.inputs;
        outputs = m.outputs;
        steps = steps;
        is_letter = record { few = is_letter.few; inputs = is_letter.inputs; outputs = is_letter.outputs };
        state = refl;
        priority = refl;
      } in
      let found = product.closed i v w at (x, leads) in
      let entry : priority_of p.game found.0 ≡ auto.priority v.state x = product.priorities found.0 w found.1 in
      let edge : HasEdge p.game i found.0 = (product.edges i found.0 v w at found.1).1 (x, leads) in
      let more = walk found.0 w ms xs last found.1 rest letters in
      record {
        j = more.j;
        w = more.w;
        at = more.at;
        latches = more.latches;
        state = more.state;
        entered = λ top below entry. more.entered top (omega arith) (inl (omega arith));
        falls = λ top counts low below.
            (let first = step_falls counts i found.0 edge (rw (product.priorities i v at) low)
            (omega (arith, entry)) in
            let later = more.falls top counts (omega arith) (omega arith) in
            record {
              never_rises = omega (arith, first.0, later.never_rises);
              falls = λ many is. elim (cases_eq (auto.priority v.state x) top) [
                | inl here ↦ omega (arith, first.1 (entry ∙ here), later.never_rises)
                | inr other ↦ omega (
                  arith,
                  first.0,
                  later.falls (some_along (auto.next v.state x) xs (omega arith)) (omega arith),
                )
              ];
            });
      }
