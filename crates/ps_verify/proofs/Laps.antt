-- A lasso trace closes a cycle of the product: some repetitions of its repeated part (laps) lead from a vertex back to
-- it.
-- - `reached`: the vertex of the product that a lasso trace reaches after its stem and a given number of laps
-- - `laps_fall`: the number `left`, made from a vertex's count, does not rise along some laps, if neither the first
--   vertex nor an edge on these laps has a priority greater than `top`. `left` falls if there is at least one lap, and
--   `top` is the greatest priority on the laps
-- - `loop`: some laps of a lasso trace lead from a vertex of the product back to it. So the product's game has no
--   counts (no progress measure) for the greatest priority on these laps, whatever its parity
use Rattle.std.proofs.Common.{◌≡◌, ℕ, zero, suc, ◌+◌, ◌-◌, ◌<◌, ◌≤◌, inr, max, Bool, List, length, refl, sym}
use Rattle.std.proofs.Common.{ap, subst, ◌∙◌, arith, Some, add-zero}
use Rattle.std.specs.Prelude.{slice_get}
use Rattle.std.proofs.Math.Nat.{add-suc}
use Rattle.std.proofs.lemmas.Bool.{cases_eq}
use Rattle.std.proofs.lemmas.Option.{slice_get_within}
use Rattle.ps_automaton.specs.Autos.{Auto, greatest_along, greatest_of_laps, state_after, state_behind}
use Rattle.ps_automaton.proofs.AdmittedFiles.Orbits.{laps_together}
use Rattle.ps_circuit.specs.Circuits.{CircuitData}
use Rattle.ps_circuit.specs.Values.{Moment, GoesOn}
use Rattle.ps_game.specs.Games.{vertex_count}
use Rattle.ps_product.specs.Products.{IsProductOf, ProductData, ProductVertex, first_vertex}
use Rattle.ps_simulate.specs.Lassos.{AreLetters}
use Rattle.ps_traces.specs.Traces.{IsLassoTrace}
use Rattle.ps_traces.proofs.Returns.{comes_again}
use Rattle.ps_verify.specs.Inner.Rounds.{HasCounts}
use Rattle.ps_verify.proofs.TraceWalks.{Falls, Walk, left, walk}

module _ {owner : ℕ} {names : List (List ℕ)} {auto : Auto} {c : CircuitData} {p : ProductData}
    (product : IsProductOf owner names auto c p) {stem_moments lap_moments : List Moment}
    (trace : IsLassoTrace c stem_moments lap_moments) (stem lap : List ℕ)
    (stem_are : AreLetters names c stem_moments stem) (lap_are : AreLetters names c lap_moments lap)
    (some : 0 < length lap) where
  abbrev start : ℕ
  start = state_behind auto auto.start stem

  record Reached (laps : ℕ) : Type 0 where
    place : ℕ
    vertex : ProductVertex
    at : slice_get p.vertices place ≡ Some vertex
    latches : vertex.latches ≡ trace.back
    state : vertex.state ≡ state_after auto start lap laps

  lap_from : (laps : ℕ) (r : Reached laps) → Walk product r.place r.vertex lap trace.back
  lap_from laps r = walk product r.place r.vertex lap_moments lap trace.back r.at
      (subst (λ (l : List Bool). GoesOn c l lap_moments trace.back) (sym r.latches) trace.comes_back) lap_are

  abbrev reached : (laps : ℕ) → Reached laps
  reached zero =
      let to = walk product 0 (first_vertex c auto) stem_moments stem trace.back product.first trace.goes_there stem_are
      in record { place = to.j; vertex = to.w; at = to.at; latches = to.latches; state = to.state }
  reached (suc laps) =
      let here = reached laps in
      let to = lap_from laps here in
      record {
        place = to.j;
        vertex = to.w;
        at = to.at;
        latches = to.latches;
        state = to.state ∙ ap (λ q. state_behind auto q lap) here.state;
      }

  -- the greatest priority of the automaton's edges that are taken in `laps` laps (repetitions of the lasso's repeated
  -- part), after `from` earlier laps
  abbrev greatest_behind : ℕ → ℕ → ℕ
  greatest_behind from laps = greatest_of_laps auto (state_after auto start lap from) lap laps

  -- the greatest priority on some laps (repetitions of the lasso's repeated part) and one more lap is the maximum of
  -- the greatest priority on the earlier laps and the greatest priority on the new lap
  greatest_more : (from laps : ℕ) → greatest_behind from (suc laps) ≡ max (greatest_behind from laps)
      (greatest_along auto (reached (from + laps)).vertex.state lap)
  greatest_more from laps = ap (λ q. max (greatest_behind from laps) (greatest_along auto q lap))
      (sym (laps_together auto start lap from laps) ∙ sym (reached (from + laps)).state)

  -- the priority of the product's vertex after one or more laps of the lasso is at most the greatest priority on these
  -- laps
  entered : (from laps : ℕ) → (reached (from + suc laps)).vertex.priority ≤ greatest_behind from (suc laps)
  entered from laps = rw add-suc ((lap_from (from + laps) (reached (from + laps))).entered
      (greatest_behind from (suc laps)) (omega (arith, greatest_more from laps)) (inr some))

  no_laps : (from laps : ℕ) → 0 < greatest_behind from laps → 0 < laps
  no_laps from zero more = absurd (omega arith)
  no_laps from (suc laps) more = omega arith

  module _ {top : ℕ} (counts : HasCounts p.game top) (from : ℕ) (low : (reached from).vertex.priority ≤ top) where
    low_behind : (laps : ℕ) → greatest_behind from laps ≤ top → (reached (from + laps)).vertex.priority ≤ top
    low_behind zero below = rw (add-zero from) low
    low_behind (suc laps) below = omega (arith, entered from laps)

    laps_fall : (laps : ℕ) → greatest_behind from laps ≤ top →
        Falls product counts (reached from).place (reached (from + laps)).place laps (greatest_behind from laps)
    laps_fall zero below = record {
      never_rises = rw (add-zero from) (omega arith);
      falls = λ many is. absurd (omega arith);
    }
    laps_fall (suc laps) below =
        let greatest = greatest_more from laps in
        let earlier = laps_fall laps (omega (arith, greatest)) in
        let lap_falls = (lap_from (from + laps) (reached (from + laps))).falls top counts
        (low_behind laps (omega (arith, greatest))) (omega (arith, greatest)) in
        rw add-suc (record {
          never_rises = omega (arith, earlier.never_rises, lap_falls.never_rises);
          falls = λ many is. grind (
            arith,
            earlier.never_rises,
            earlier.falls,
            lap_falls.never_rises,
            lap_falls.falls,
            no_laps from laps,
            greatest,
            some,
            cases_eq (greatest_behind from laps) top,
          );
        })

  -- after `before` laps (repetitions of the lasso's repeated part), one or more further laps lead the automaton from
  -- its state back to this state
  pub record Loop : Type 0 where
    pub before : ℕ
    pub laps : ℕ
    pub some_laps : 0 < laps
    pub returns : state_after auto start lap (before + laps) ≡ state_after auto start lap before
    -- the product's game has no counts (no progress measure) for the greatest priority on these further laps, whatever
    -- its parity
    pub none : HasCounts p.game (greatest_of_laps auto (state_after auto start lap before) lap laps) → ⊥

  module _ (before more : ℕ) (same : (reached (before + suc more)).place ≡ (reached before).place) where
    vertex_same : (reached (before + suc more)).vertex ≡ (reached before).vertex
    vertex_same = let at = (reached (before + suc more)).at in
        let at_first = (reached before).at in
        cc (at, at_first, same)

    no_counts : HasCounts p.game (greatest_behind before (suc more)) → ⊥
    no_counts counts =
        let low : (reached before).vertex.priority ≤ greatest_behind before (suc more) =
        omega (arith, entered before more, ap (λ (v : ProductVertex). v.priority) vertex_same) in
        let behind = laps_fall counts before low (suc more) (omega arith) in
        omega (arith, behind.falls (omega arith) refl, ap (left product counts) same)

    loop_of : Loop
    loop_of = record {
      before = before;
      laps = suc more;
      some_laps = omega arith;
      returns = sym (reached (before + suc more)).state ∙ ap (λ (v : ProductVertex). v.state) vertex_same
          ∙ (reached before).state;
      none = no_counts;
    }

  pub loop : Loop
  loop =
      let found = comes_again (λ laps. (reached laps).place) (vertex_count p.game)
      (λ laps. omega (
        arith,
        product.one_each,
        slice_get_within p.vertices (reached laps).place (reached laps).vertex (reached laps).at,
      )) in
      let more = found.other - found.one - 1 in
      let there : found.one + suc more ≡ found.other = omega (arith, found.rises) in
      loop_of found.one more (rw there (sym found.same))
