-- A controller loses if it reads a stem on which the automaton comes to its sink, whatever it reads after the stem.
-- - `sink_rejects`: a lasso on which the automaton comes to its sink is not accepted
-- - `state_along`: the automaton's state after the letters of a trace that reads the stem
-- - `losing_at_sink`, `judged_at_sink`: the stem, with any lap of one letter, is a counterexample
use Rattle.std.proofs.Common.{◌≡◌, ◌∙◌, ℕ, zero, suc, ◌+◌, ◌-◌, ◌^◌, ◌<◌, ◌≤◌, All, Bool, List, [], ◌∷◌, Some, get_or}
use Rattle.std.proofs.Common.{length}
use Rattle.std.proofs.Common.{take, refl, sym, ap, subst, arith, add-zero, true, false, get_or-take, length-take-le}
use Rattle.std.specs.Prelude.{replicate}
use Rattle.std.proofs.Math.Nat.{add-suc}
use Rattle.std.proofs.lemmas.Bool.{lt-ltb}
use Rattle.std.proofs.lemmas.List.{length-map, length-replicate}
use Rattle.ps_hoa.specs.Files.{FileData}
use Rattle.ps_hoa.specs.Sound.{AreNames}
use Rattle.ps_automaton.specs.Acceptance.{IsAccepted}
use Rattle.ps_automaton.specs.Automata.{AutomatonData, IsBuiltFrom, auto_of}
use Rattle.ps_automaton.specs.Autos.{Auto, IsAutoOf, greatest_from, priority_at, state_at, state_behind}
use Rattle.ps_automaton.specs.Chains.{Chain, chain_of, is_even}
use Rattle.ps_label.specs.Words.{Repeats, lasso_word}
use Rattle.ps_automaton.proofs.AdmittedFiles.Orbits.{any_return_decides, list_is_read}
use Rattle.ps_circuit.specs.Circuits.{CircuitData, IsCircuit}
use Rattle.ps_circuit.specs.Values.{GoesOn, HasOneValues, Moment, bit_of}
use Rattle.ps_machine.specs.declared.key.Order.{Order}
use Rattle.ps_product.specs.Products.{ProductVertex, first_vertex}
use Rattle.ps_product.specs.Stems.{LeadsAlong, LeadsToSink}
use Rattle.ps_simulate.specs.LassoFaults.{AreWide}
use Rattle.ps_simulate.specs.Lassos.{AreLetters, IsLetterOf}
use Rattle.ps_simulate.specs.Stimuli.{StimulusData}
use Rattle.ps_simulate.specs.Symbols.{HasSymbols}
use Rattle.ps_simulate.specs.declared.role.Role.{Role}
use Rattle.ps_simulate.specs.declared.role.Role.TheVariants.{Controller, Environment}
use Rattle.ps_simulate.proofs.LapsOfRuns.LassoLemmas.{few_letters, length_letters}
use Rattle.ps_simulate.proofs.NamingLemmas.{names_differ}
use Rattle.ps_simulate.proofs.UniqueVerdicts.OneLetter.{one_letters}
use Rattle.ps_simulate.proofs.UniqueVerdicts.OneTrace.{firsts_agree}
use Rattle.ps_traces.specs.Inputs.{inputs_of}
use Rattle.ps_traces.specs.Shapes.{IsInTimeWhereReached}
use Rattle.ps_verify.specs.Judgements.{IsLosing}
use Rattle.ps_verify.specs.Stimulated.{IsWordOn}
use Rattle.ps_verify.proofs.OneAcceptance.{AreFew, decided, few_at}
use Rattle.ps_verify.proofs.PartJudgements.{trace_there}
use Rattle.ps_verify.proofs.TracesOn.{unrolled_to}

module _ {file : FileData} {chain : Chain} {auto : Auto} (is_chain : chain_of file.condition ≡ Some chain)
    (is_auto : IsAutoOf file chain auto) where
  module _ (w : ℕ → ℕ) (few : (t : ℕ) → w t < 2 ^ length file.names) (n : ℕ)
      (at : state_at auto w n ≡ file.states) where
    stays : (m : ℕ) → state_at auto w (n + m) ≡ file.states
    stays zero = rw (add-zero n) at
    stays (suc m) = rw add-suc (cc (stays m, (is_auto.sink_stays (w (n + m)) (few (n + m))).0))

    ones : (t : ℕ) → n ≤ t → priority_at auto w t ≡ 1
    ones t low =
        let place : n + (t - n) ≡ t = omega (arith, low) in
        let there : state_at auto w t ≡ file.states = rw place at (stays (t - n)) in
        cc (there, (is_auto.sink_stays (w t) (few t)).1)

    repeat : Repeats (priority_at auto w) n 1
    repeat t low = ones (t + 1) (omega (arith, low)) ∙ sym (ones t low)

  pub sink_rejects : (stem lap : List ℕ) → 0 < length lap → AreFew is_chain is_auto stem →
      AreFew is_chain is_auto lap → (n : ℕ) → state_at auto (lasso_word stem lap) n ≡ file.states →
      IsAccepted file stem lap → ⊥
  sink_rejects stem lap some in_stem in_lap n at accepted =
      let w = lasso_word stem lap in
      let few = few_at is_chain is_auto stem lap some in_stem in_lap in
      let d = decided is_chain is_auto stem lap some in_stem in_lap in
      let last : greatest_from (priority_at auto w) n 1 ≡ 1 = omega (arith, ones w few n at n (omega arith)) in
      let all : greatest_from (priority_at auto w) d.from d.count ≡ 1 =
      any_return_decides d.repeats (repeat w few n at) d.some (omega arith) ∙ last in
      let even : is_even 1 ≡ true = rw all at (d.decides.1 accepted) in
      let no : false ≡ true = even in
      cc

module _ {role : Role} {names : List (List ℕ)} {controllable : List ℕ} {c : CircuitData} (auto : Auto)
    (is_circuit : IsCircuit c) (one : HasOneValues c) (has : HasSymbols role names controllable c) where
  state_along : (v w : ProductVertex) (inputs : List (List Bool)) (ms : List Moment) (ls : List ℕ) (last : List Bool) →
      LeadsAlong names auto c v inputs w → GoesOn c v.latches ms last → AreLetters names c ms ls →
      length inputs ≤ length ms →
      ((k : ℕ) → k < length inputs → get_or (inputs_of ms) k [] ≡ get_or inputs k []) →
      state_behind auto v.state (take (length inputs) ls) ≡ w.state
  state_along v w [] ms ls last leads goes are le same = ap (λ (x : ProductVertex). x.state) leads
  state_along v w (x ∷ xs) [] ls last leads goes are le same = absurd (omega arith)
  state_along v w (x ∷ xs) (m ∷ ms) [] last leads goes are le same = absurd are
  state_along v w (x ∷ xs) (m ∷ ms) (l ∷ ls) last (u, reads, rest) (next, at, steps, on) are le same =
      let step = reads.leads in
      let n : Moment = record { latches = v.latches; inputs = step.inputs; outputs = step.outputs } in
      let first = firsts_agree c is_circuit one v.latches next u.latches m n at refl steps step.steps
      (same 0 (omega arith) ∙ sym reads.reads) in
      let there : IsLetterOf names c n l = subst (λ (y : Moment). IsLetterOf names c y l) first.0 are.0 in
      let alike : l ∷ [] ≡ reads.letter ∷ [] =
      one_letters has (n ∷ []) (l ∷ []) (reads.letter ∷ []) (there, refl) (step.is_letter, refl) in
      let letter : l ≡ reads.letter = cc in
      let state : auto.next v.state l ≡ u.state = ap (auto.next v.state) letter ∙ sym step.state in
      subst (λ (q : ℕ). state_behind auto q (take (length xs) ls) ≡ w.state) (sym state)
      (state_along u w xs ms ls last rest (subst (λ (latches : List Bool). GoesOn c latches ms last) first.1 on) are.1
      (omega arith) (λ k less. same (suc k) (omega arith)))

  -- the automaton is in the state of the last vertex after the letters of the stem
  pub state_behind_stem : {s : StimulusData} {stem lap : List ℕ} (last : ProductVertex) →
      IsWordOn names c s stem lap → LeadsAlong names auto c (first_vertex c auto) s.stem last →
      state_at auto (lasso_word stem lap) (length s.stem) ≡ last.state
  state_behind_stem {s} {stem} {lap} last on leads =
      let n = length s.stem in
      let r = unrolled_to on n in
      let w = lasso_word stem lap in
      let many = length_letters names c r.moments r.letters r.are_letters in
      let short : length (take n r.letters) ≡ n = length-take-le n r.letters (omega (arith, many, r.within)) in
      let behind = state_along (first_vertex c auto) last s.stem r.moments r.letters r.last leads r.goes_on
      r.are_letters (omega (arith, r.within)) (λ k less. r.reads k (omega (arith, less))
      ∙ (rw (lt-ltb k (length s.stem) less) refl)) in
      let read = list_is_read auto w 0 (take n r.letters) (λ k less.
      let low : k < n = omega (arith, less, short) in
      let from : 0 + k ≡ k = omega arith in
      rw from (sym (get_or-take n r.letters k 0 low ∙ r.letter_is k (omega (arith, low))))) in
      let place : 0 + length (take n r.letters) ≡ n = omega (arith, short) in
      rw place at read.state ∙ behind

-- the inputs of steps have a bit for each input of the circuit
wide_along : (names : List (List ℕ)) (auto : Auto) (c : CircuitData) (v w : ProductVertex)
    (inputs : List (List Bool)) → LeadsAlong names auto c v inputs w →
    All (λ letter. length letter ≡ length c.inputs) inputs
wide_along names auto c v w [] leads k d less = absurd (omega arith)
wide_along names auto c v w (x ∷ xs) (u, reads, rest) zero d less =
    ap (λ (bs : List Bool). length bs) (sym reads.reads ∙ sym reads.leads.steps.are_values.inputs_are)
    ∙ length-map c.inputs (bit_of reads.leads.steps.values)
wide_along names auto c v w (x ∷ xs) (u, reads, rest) (suc k) d less =
    wide_along names auto c u w xs rest k d (omega arith)

pub losing_at_sink : {order : Order} {file : FileData} {chain : Chain} {a : AutomatonData} {c : CircuitData}
    (stem : List (List Bool)) (letter : List Bool) → IsBuiltFrom file chain a → AreNames file.names → IsCircuit c →
    HasOneValues c → HasSymbols Controller file.names file.controllable c →
    IsInTimeWhereReached order Controller c → LeadsToSink a c stem → length letter ≡ length c.inputs →
    IsLosing order Controller file c (record { stem = stem; lap = letter ∷ [] })
losing_at_sink {file = file} {a = a} {c = c} stem letter built are_names is_circuit one symbols in_time sink wide =
    let s : StimulusData = record { stem = stem; lap = letter ∷ [] } in
    let leads : LeadsAlong file.names (auto_of a) c (first_vertex c (auto_of a)) stem sink.last =
    rw built.names at sink.leads in
    let are_wide : AreWide c stem (letter ∷ []) = record {
      stem_is = wide_along file.names (auto_of a) c (first_vertex c (auto_of a)) sink.last stem leads;
      lap_is = λ k d less. (let first : k ≡ 0 = omega arith in rw first wide);
    } in
    let there = trace_there s (names_differ file.names are_names) one symbols are_wide (omega arith) in
    record {
      symbols = symbols;
      in_time = in_time;
      wide = are_wide;
      some = omega arith;
      word = there.word;
      is_word = there.is_word;
      is_wrong = λ first again on. (
        λ accepted. absurd (sink_rejects built.is_chain built.auto first again
            (omega (
              arith,
              length_letters file.names c on.word.lap_moments again on.word.lap_letters,
              on.word.trace.some,
            ))
            (few_letters file.names c on.word.stem_moments first on.word.stem_letters)
            (few_letters file.names c on.word.lap_moments again on.word.lap_letters) (length stem)
            (state_behind_stem (auto_of a) is_circuit one symbols sink.last on leads ∙ sink.is_sink ∙ built.states)
            accepted),
        λ same. absurd (let no : Controller ≡ Environment = same in cc),
      );
    }

pub judged_at_sink : (order : Order) (role : Role) {a : AutomatonData} {c : CircuitData} (file : FileData)
    (chain : Chain) (stem : List (List Bool)) (s : StimulusData) → IsBuiltFrom file chain a → AreNames a.names →
    IsCircuit c → HasOneValues c → HasSymbols role a.names a.controllable c → IsInTimeWhereReached order role c →
    (role ≡ Controller) × LeadsToSink a c stem → s.stem ≡ stem →
    s.lap ≡ replicate (length c.inputs) false ∷ [] → IsLosing order role file c s
judged_at_sink order role {a} {c} file chain stem s built names is_circuit one symbols in_time sink stem_is lap_is =
    let of_file : HasSymbols role file.names file.controllable c = rw (built.names, built.controllable) at symbols in
    let letter : List Bool = replicate (length c.inputs) false in
    let loses : IsLosing order Controller file c (record { stem = stem; lap = letter ∷ [] }) =
    losing_at_sink stem letter built (subst AreNames built.names names) is_circuit one
    (subst (λ (r : Role). HasSymbols r file.names file.controllable c) sink.0 of_file)
    (subst (λ (r : Role). IsInTimeWhereReached order r c) sink.0 in_time) sink.1
    (length-replicate (length c.inputs) false) in
    let same : s ≡ record { stem = stem; lap = letter ∷ [] } = λ i. record { stem = stem_is i; lap = lap_is i } in
    let there : IsLosing order Controller file c s = subst (IsLosing order Controller file c) (sym same) loses in
    subst (λ (r : Role). IsLosing order r file c s) (sym sink.0) there
