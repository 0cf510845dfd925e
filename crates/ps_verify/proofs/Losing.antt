-- If the circuit reads the lap of a stimulus along a cycle of the product, and the circuit's player loses a play that
-- repeats this cycle, the stimulus is a counterexample.
-- - `losing`: a stimulus is a counterexample, if the circuit reads its stem on a path to a cycle that the circuit's
--   player loses, and its lap, the part that repeats, along this cycle
use Rattle.std.proofs.Common.{◌≡◌, ℕ, ◌%◌, ◌<◌, ◌↔◌, max, Bool, IsTrue, List, []}
use Rattle.std.proofs.Common.{◌∷◌, ◌++◌, length, map, get_or, Some, refl, ap, subst, ◌∙◌}
use Rattle.std.proofs.Common.{arith}
use Rattle.std.specs.Prelude.{slice_get}
use Rattle.std.proofs.lemmas.List.{get_or_push, length-map, length_push}
use Rattle.std.proofs.lemmas.Bool.{eq-eqb, eqb-true}
use Rattle.ps_hoa.specs.Files.{FileData}
use Rattle.ps_automaton.specs.Acceptance.{IsAccepted}
use Rattle.ps_automaton.specs.Autos.{Auto, IsAutoOf, greatest_along}
use Rattle.ps_automaton.specs.Chains.{Chain, chain_of, is_even}
use Rattle.ps_automaton.proofs.AdmittedFiles.Accepting.{laps_decide}
use Rattle.ps_circuit.specs.Circuits.{CircuitData, IsCircuit}
use Rattle.ps_circuit.specs.Values.{Moment, GoesOn, HasOneValues}
use Rattle.ps_game.specs.Games.{IsGame, priority_of}
use Rattle.ps_game.specs.Plays.{greatest, other_player}
use Rattle.ps_game.specs.Strategies.{last_vertex}
use Rattle.ps_machine.specs.declared.key.Order.{Order}
use Rattle.ps_product.specs.ProductFaults.{asked_of}
use Rattle.ps_product.specs.Products.{IsProductOf, ProductData, ProductVertex, first_vertex}
use Rattle.ps_simulate.specs.Stimuli.{StimulusData}
use Rattle.ps_simulate.specs.Symbols.{HasSymbols}
use Rattle.ps_simulate.specs.declared.role.Role.{Role}
use Rattle.ps_simulate.specs.declared.role.Role.TheVariants.{Controller, Environment}
use Rattle.ps_simulate.proofs.LapsOfRuns.LassoLemmas.{few_letters}
use Rattle.ps_simulate.proofs.LapsOfRuns.LassoLemmas.{length_letters}
use Rattle.ps_traces.specs.Shapes.{IsInTimeWhereReached}
use Rattle.ps_traces.specs.Traces.{IsLassoWord}
use Rattle.ps_verify.specs.Inner.Readings.{ReadsPath, ReadsRound}
use Rattle.ps_verify.specs.Inner.Rounds.{round_of}
use Rattle.ps_verify.specs.Judgements.{IsLosing}
use Rattle.ps_verify.proofs.PathInputs.{Follows, follow}
use Rattle.ps_verify.proofs.Worth.{refuted}

-- ## Lists

abbrev behind_first : List ℕ → List ℕ
behind_first [] = []
behind_first (x ∷ xs) = xs

greatest_turned : (f : ℕ → ℕ) (x : ℕ) (xs : List ℕ) → greatest (map f (xs ++ x ∷ [])) ≡ greatest (map f (x ∷ xs))
greatest_turned f x [] = refl
greatest_turned f x (y ∷ ys) = omega (arith, greatest_turned f x ys)

greatest_of_round : (f : ℕ → ℕ) (cycle : List ℕ) → 0 < length cycle →
    greatest (map f (behind_first (round_of cycle))) ≡ greatest (map f cycle)
greatest_of_round f [] some = absurd (omega arith)
greatest_of_round f (x ∷ xs) some = greatest_turned f x xs

-- a priority by which the circuit's player loses is even exactly if the player is the environment
wrong : (role : Role) (n : ℕ) → n % 2 ≡ other_player (asked_of role) → IsTrue (is_even n) ↔ (role ≡ Environment)
wrong Controller n lost = (λ even. absurd (omega (arith, eqb-true (n % 2) 0 even)), λ same. cc)
wrong Environment n lost = (λ even. refl, λ same. eq-eqb (n % 2) 0 lost)

module _ (role : Role) {file : FileData} {chain : Chain} {auto : Auto} {c : CircuitData} {p : ProductData}
    (is_chain : chain_of file.condition ≡ Some chain) (is_auto : IsAutoOf file chain auto)
    (product : IsProductOf (other_player (asked_of role)) file.names auto c p) (is_game : IsGame p.game) where
  -- ## The trace

  follow_path : (path : List ℕ) (v : ProductVertex) (inputs : List (List Bool)) → 0 < length path →
      slice_get p.vertices (get_or path 0 0) ≡ Some v → ReadsPath p path inputs →
      Follows product is_game v (behind_first path) (last_vertex path) inputs
  follow_path [] v inputs some at reads = absurd (omega arith)
  follow_path (i ∷ path) v inputs some at reads =
      subst (λ (place : ℕ). Follows product is_game v path (get_or (i ∷ path) place 0) inputs) (omega arith)
      (follow product is_game i path v inputs at (omega (arith, reads.one_each)) reads.each)

  module _ {s : StimulusData} (r : ReadsRound (asked_of role) p s) where
    stem : Follows product is_game (first_vertex c auto) (behind_first r.way) (last_vertex r.way) s.stem
    stem = follow_path r.way (first_vertex c auto) s.stem r.leads.is_path.begins (rw r.leads.from product.first) r.stem

    at_cycle : slice_get p.vertices (get_or r.cycle 0 0) ≡ Some stem.w
    at_cycle = rw r.leads.ends at stem.at

    round_first : (cycle : List ℕ) → 0 < length cycle → get_or (round_of cycle) 0 0 ≡ get_or cycle 0 0
    round_first [] some = absurd (omega arith)
    round_first (x ∷ xs) some = refl

    lap : Follows product is_game stem.w (behind_first (round_of r.cycle)) (last_vertex (round_of r.cycle)) s.lap
    lap = follow_path (round_of r.cycle) stem.w s.lap r.lost.is_path.begins
        (rw (round_first r.cycle r.lost.some) at_cycle) r.lap

    round_last : last_vertex (round_of r.cycle) ≡ get_or r.cycle 0 0
    round_last =
        get_or_push r.cycle (get_or r.cycle 0 0) 0 _ (omega (arith, length_push r.cycle (get_or r.cycle 0 0)))

    again : lap.w ≡ stem.w
    again = let at = lap.at in cc (at, at_cycle, round_last)

    comes_back : GoesOn c stem.w.latches lap.moments stem.w.latches
    comes_back = subst (λ (w : ProductVertex). GoesOn c stem.w.latches lap.moments w.latches) again lap.goes_on

    some_lap : 0 < length lap.moments
    some_lap = omega (
      arith,
      length-map lap.moments (λ (m : Moment). m.inputs),
      ap length lap.reads,
      r.lap.one_each,
      length_push r.cycle (get_or r.cycle 0 0),
      r.lost.some,
    )

    word : IsLassoWord file.names c stem.letters lap.letters
    word = record {
      stem_moments = stem.moments;
      lap_moments = lap.moments;
      trace = record { some = some_lap; back = stem.w.latches; goes_there = stem.goes_on; comes_back = comes_back };
      stem_letters = stem.are_letters;
      lap_letters = lap.are_letters;
    }

    -- ## The verdict

    top : ℕ
    top = greatest_along auto stem.w.state lap.letters

    told : IsTrue (is_even top) ↔ IsAccepted file stem.letters lap.letters
    unfolding top
    told =
        let few = length_letters file.names c lap.moments lap.letters lap.are_letters in
        let alone : max 0 (greatest_along auto stem.w.state lap.letters) ≡ greatest_along auto stem.w.state lap.letters
        =
        omega arith in
        rw alone at (laps_decide file chain auto stem.letters lap.letters 0 1 stem.w.state is_chain is_auto
        (omega (arith, few, some_lap))
        (few_letters file.names c stem.moments stem.letters stem.are_letters)
        (few_letters file.names c lap.moments lap.letters lap.are_letters) (omega arith) stem.state
        (rw stem.state (lap.state ∙ ap (λ (w : ProductVertex). w.state) again)))

    top_is : top % 2 ≡ other_player (asked_of role)
    unfolding top
    top_is = ap (λ n. n % 2) (lap.greatest_is ∙ greatest_of_round (priority_of p.game) r.cycle r.lost.some)
        ∙ r.lost.lost

    is_wrong : IsAccepted file stem.letters lap.letters ↔ (role ≡ Environment)
    is_wrong =
        let by = wrong role top top_is in
        (λ accepted. by.0 (told.1 accepted), λ same. told.0 (by.1 same))

    pub losing : (order : Order) → IsCircuit c → HasOneValues c → HasSymbols role file.names file.controllable c →
        IsInTimeWhereReached order role c → IsLosing order role file c s
    unfolding word
    losing order is_circuit one symbols in_time = rw (stem.reads, lap.reads) at
        (refuted is_chain is_auto is_circuit one symbols order in_time word is_wrong)
