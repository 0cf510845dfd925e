-- The automaton that is built from a `Draft`, which holds the decision diagrams of all states' steps, is the automaton
-- of the file.
use Rattle.std.proofs.Common.{◌≡◌, ℕ, ◌^◌, ◌<◌, ◌≤◌, ◌⊎◌, inl, inr, false, List, length, Option, Some, rules, arith}
use Rattle.std.specs.Option.{IsSomeAnd}
use Rattle.std.proofs.Math.Nat.{eq-or-lt_of_le}
use Rattle.std.proofs.lemmas.Option.{slice_get_within, slice_get-get_or, get_or_from_slice_get}
use Rattle.ps_diagram.specs.Table.{Table, IsNode, leaf_of}
use Rattle.ps_hoa.specs.Files.{FileData}
use Rattle.ps_hoa.specs.Sound.{IsSoundFile}
use Rattle.ps_hoa.proofs.Soundness.SoundLaws.{row_of_state}
use Rattle.ps_automaton.specs.Answers.{IsDeterministic, IsRefused}
use Rattle.ps_automaton.specs.Automata.{AutomatonData, IsWhole, auto_of, node_of, step_of}
use Rattle.ps_automaton.specs.Autos.{IsAutoOf, TakesEdge, TakesNone}
use Rattle.ps_automaton.specs.Chains.{Chain, chain_of, has_complement, level}
use Rattle.ps_automaton.specs.Inner.Drafts.{AreSteps, IsDraft, IsDraftFault, Names}
use Rattle.ps_automaton.specs.Inner.Places.{AreDistinct}
use Rattle.ps_automaton.specs.declared.fault.AutomatonFault.{AutomatonFault}
use Rattle.ps_automaton.specs.declared.step.Step.{Step}

named_within : {states : ℕ} {steps : List Step} → AreSteps states steps → (o : Option ℕ) (step : Step) →
    Names steps o step → step.state ≤ states
named_within h o step k = search rules

pub draft_is_deterministic : {file : FileData} {chain : Chain} {steps : List Step} {t : Table} {nodes : List ℕ} →
    IsSoundFile file → IsDraft file chain steps t nodes → IsDeterministic file
draft_is_deterministic {file} sound d q first second k =
    let row = row_of_state file sound q k.row k.of_state in
    let low : q < file.states = omega arith in
    (d.states q low).clear first second k

module _ {file : FileData} (sound : IsSoundFile file) {chain : Chain} (a : AutomatonData)
    (draft : IsDraft file chain a.steps a.store a.nodes) (names : a.names ≡ file.names)
    (controllable : a.controllable ≡ file.controllable) (states : a.states ≡ file.states) (start : a.start ≡ file.start)
  where
    named_step : (q letter : ℕ) (step : Step) → Names a.steps (leaf_of a.store (node_of a q) letter) step →
        step_of a q letter ≡ step
    named_step q letter step = search (rules, get_or_from_slice_get)

    sink_named : (letter : ℕ) → Names a.steps (leaf_of a.store (node_of a file.states) letter)
        (record { state = file.states; priority = 1 })
    sink_named letter = search rules

    -- if P holds for each state and for the sink, P holds for every number up to `file.states`, which is the sink's
    -- number
    at_each : (P : ℕ → Type 0) → ((q : ℕ) → q < file.states → P q) → P file.states → (q : ℕ) → q ≤ file.states → P q
    at_each P states sink q low = elim (eq-or-lt_of_le low) [ inl e ↦ rw e sink | inr less ↦ states q less ]

    step_within : (q letter : ℕ) (step : Step) → Names a.steps (leaf_of a.store (node_of a q) letter) step →
        (step_of a q letter).state ≤ file.states
    step_within q letter step h = search (rules, named_step, named_within)

    state_within : (q : ℕ) → q ≤ file.states → (letter : ℕ) → letter < 2 ^ length file.names →
        (step_of a q letter).state ≤ file.states
    state_within = at_each (λ q. (letter : ℕ) → letter < 2 ^ length file.names →
        (step_of a q letter).state ≤ file.states) (λ q less letter small. search (rules, step_within))
        (λ letter small. step_within file.states letter _ (sink_named letter))

    takes : (q letter : ℕ) → q < file.states → letter < 2 ^ length file.names →
        TakesEdge file chain (auto_of a) q letter ⊎ TakesNone file (auto_of a) q letter
    takes q letter low small = search (rules, named_step)

    pub auto_built : IsAutoOf file chain (auto_of a)
    auto_built = record {
      start = start;
      start_within = omega (arith, start);
      within = λ q letter low small. state_within q low letter small;
      steps = takes;
      by_edge = λ q letter sets next g.
          let row = row_of_state file sound q g.row g.of_state in
          let low : q < file.states = omega arith in
          grind (
            arith,
            named_step q letter (record { state = next; priority = level chain sets })
                ((draft.states q low).by_edge letter sets next g),
          );
      sink_stays = λ letter small. grind (
        arith,
        named_step file.states letter (record { state = file.states; priority = 1 }) (sink_named letter),
      );
    }

    leaves_within : (q : ℕ) → q ≤ file.states → (letter : ℕ) → IsSomeAnd (leaf_of a.store (node_of a q) letter)
        (λ leaf. leaf < length a.steps)
    leaves_within = search (rules, at_each, slice_get_within)

    held_within : (q : ℕ) → q ≤ file.states → IsNode a.store (node_of a q)
    held_within = at_each (λ q. IsNode a.store (node_of a q)) (λ q less. (draft.states q less).held) draft.sink_held

    pub whole_built : AreDistinct a.steps → IsWhole a
    whole_built distinct = grind (arith, held_within, leaves_within, slice_get-get_or, distinct)

pub draft_refused : (file : FileData) {chain : Chain} → has_complement file.condition ≡ false →
    chain_of file.condition ≡ Some chain → (f : AutomatonFault) → IsDraftFault file f → IsRefused file f
draft_refused file h k f m = search rules
