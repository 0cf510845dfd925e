-- The joint run of a circuit and a finite-state controller, called their meeting, never ends, is unique, and returns to
-- an earlier pair of latch values and memory state.
use Rattle.std.proofs.Common.{◌≡◌, ℕ, zero, suc, ◌+◌, ◌*◌, ◌^◌, ◌<◌, Bool, false, List, [], ◌∷◌, length, refl, sym, ◌∙◌}
use Rattle.std.proofs.Common.{arith, rules, ◌++◌, length-append}
use Rattle.std.specs.Prelude.{replicate}
use Rattle.std.proofs.lemmas.List.{length-map, length-replicate}
use Rattle.std.proofs.lemmas.Nat.{mul-add-lt, same_from_place}
use Rattle.ps_circuit.specs.Circuits.{CircuitData}
use Rattle.ps_circuit.specs.Values.{Moment, HasOneValues, Steps, resets}
use Rattle.ps_machine.specs.declared.key.Order.{Order}
use Rattle.ps_machine.specs.declared.key.Order.TheVariants.{Mealy, Moore}
use Rattle.ps_simulate.specs.declared.role.Role.TheVariants.{Environment}
use Rattle.ps_traces.specs.Shapes.{IsInTimeWhereReached, IsReachedByTrace}
use Rattle.ps_traces.specs.Meetings.{FiniteController, IsController, HasInputWidth, AnswersMoments, GoesJointly}
use Rattle.ps_traces.specs.Meetings.{IsMeeting}
use Rattle.ps_traces.specs.Meetings.{MeetsInLasso}
use Rattle.ps_simulate.proofs.LapsOfRuns.CountLemmas.{code, code_lt, code_same}
use Rattle.ps_simulate.proofs.LapsOfRuns.LassoLemmas.{GoesOn-append}
use Rattle.ps_traces.proofs.Returns.{come_back, legs, legs_go}
use Rattle.ps_traces.proofs.CircuitRuns.{next_reached, resets_reached, step}

-- a step of a circuit whose inputs are the controller's answer to the circuit's outputs
pub record JointStep (c : CircuitData) (k : FiniteController) (latches : List Bool) (memory : ℕ) : Type 0 where
  pub inputs : List Bool
  pub outputs : List Bool
  pub next : List Bool
  pub steps : Steps c latches inputs outputs next
  pub answers : inputs ≡ k.plays memory outputs
  pub outputs_wide : length outputs ≡ length c.outputs
  pub next_wide : length next ≡ length c.latches

-- in the order `Mealy` the environment moves first, so the outputs of its circuit don't depend on the circuit's inputs
joint_mealy : (c : CircuitData) (k : FiniteController) → HasOneValues c → IsInTimeWhereReached Mealy Environment c →
    IsController Mealy c k → (latches : List Bool) (memory : ℕ)
    → IsReachedByTrace c latches → length latches ≡ length c.latches → memory < k.size → JointStep c k latches memory
joint_mealy c k one in_time is latches memory reached held within =
    let before =
    step c one latches (replicate (length c.inputs) false) held (length-replicate (length c.inputs) false) in
    let inputs = k.plays memory before.outputs in
    let now = step c one latches inputs held (is.plays_wide memory before.outputs within before.outputs_wide) in
    let same : before.outputs ≡ now.outputs = in_time refl latches _ _ _ _ _ _ reached before.steps now.steps in
    grind arith

-- in the order `Moore` the controller moves first, so its letter does not depend on the letter that it reads
joint_moore : (c : CircuitData) (k : FiniteController) → HasOneValues c → IsController Moore c k →
    (latches : List Bool) (memory : ℕ)
    → length latches ≡ length c.latches → memory < k.size → JointStep c k latches memory
joint_moore c k one is latches memory held within =
    let any = replicate (length c.outputs) false in
    let any_wide : HasInputWidth c any = length-replicate (length c.outputs) false in
    let inputs = k.plays memory any in
    grind (arith, step c one latches inputs held (is.plays_wide memory any within any_wide))

pub joint_step : (order : Order) (c : CircuitData) (k : FiniteController) → HasOneValues c →
    IsInTimeWhereReached order Environment c → IsController order c k → (latches : List Bool) (memory : ℕ)
    → IsReachedByTrace c latches → length latches ≡ length c.latches → memory < k.size → JointStep c k latches memory
joint_step Mealy c k one in_time is latches memory reached held within =
    joint_mealy c k one in_time is latches memory reached held within
joint_step Moore c k one in_time is latches memory reached held within =
    joint_moore c k one is latches memory held within

module _ (order : Order) (c : CircuitData) (k : FiniteController) (one : HasOneValues c)
    (in_time : IsInTimeWhereReached order Environment c) (is : IsController order c k) where
  -- a point of the joint run: the circuit's latch values, which some trace reaches, and the controller's memory state
  record Place : Type 0 where
    latches : List Bool
    memory : ℕ
    reached : IsReachedByTrace c latches
    held : length latches ≡ length c.latches
    within : memory < k.size

  step_at : (at : Place) → JointStep c k at.latches at.memory
  step_at at = joint_step order c k one in_time is at.latches at.memory at.reached at.held at.within

  abbrev place : ℕ → Place
  place zero = record {
    latches = resets c;
    memory = k.first;
    reached = resets_reached c;
    held = length-map c.latches (λ l. l.reset);
    within = is.first_within;
  }
  place (suc t) = record {
    latches = (step_at (place t)).next;
    memory = k.next (place t).memory (step_at (place t)).outputs;
    reached = next_reached (place t).reached (step_at (place t)).steps;
    held = (step_at (place t)).next_wide;
    within = is.next_within (place t).memory (step_at (place t)).outputs (place t).within
        (step_at (place t)).outputs_wide;
  }

  -- the circuit's steps in its joint run with the controller, from one pair of latch values and memory state to another

  abbrev At : Type 0
  At = List Bool × ℕ

  abbrev Goes : At → List Moment → At → Type 0
  Goes s moments t = GoesJointly c k s.0 s.1 moments t.0 t.1

  abbrev at : ℕ → At
  at t = ((place t).latches, (place t).memory)

  abbrev moment : ℕ → List Moment
  moment t = record {
    latches = (place t).latches;
    inputs = (step_at (place t)).inputs;
    outputs = (step_at (place t)).outputs;
  } ∷ []

  stay : (s : At) → Goes s [] s
  stay s = record { goes_on = refl; answers = refl }

  answers_both : (memory between last : ℕ) (xs ys : List Moment) → AnswersMoments k memory xs between →
      AnswersMoments k between ys last → AnswersMoments k memory (xs ++ ys) last
  answers_both memory between last [] ys a b = rw a b
  answers_both memory between last (x ∷ xs) ys a b =
      (a.0, answers_both (k.next memory x.outputs) between last xs ys a.1 b)

  join : (r s t : At) (xs ys : List Moment) → Goes r xs s → Goes s ys t → Goes r (xs ++ ys) t
  join r s t xs ys a b = search (rules, GoesOn-append, answers_both)

  goes : (t : ℕ) → Goes (at t) (moment t) (at (suc t))
  goes t = search (rules, step_at)

  abbrev moments : ℕ → ℕ → List Moment
  moments from count = legs Goes stay join at moment goes from count

  many : (from count : ℕ) → length (moments from count) ≡ count
  many from zero = refl
  many from (suc count) = omega (arith, length-append (moments from count) (moment (from + count)), many from count)

  -- ## The meeting returns to an earlier point

  small : (t : ℕ) → code (place t).latches < 2 ^ length c.latches
  small t = rw (← (place t).held) (code_lt (place t).latches)

  pub in_lasso : MeetsInLasso c k
  in_lasso =
      let width = 2 ^ length c.latches in
      let b = come_back Goes stay join at moment goes (λ t. (place t).memory * width + code (place t).latches)
      (width * k.size)
      (λ t. mul-add-lt (place t).memory width (code (place t).latches) k.size (place t).within (small t)) (λ i j e.
      let both = same_from_place (place i).memory (code (place i).latches) (place j).memory (code (place j).latches)
      width (small i) (small j) e in
      let latches = code_same (place i).latches (place j).latches ((place i).held ∙ sym (place j).held) both.1 in
      λ x. (latches x, both.0 x)) in
      grind (arith, many)

  pub meeting_of : (count : ℕ) → (moments : List Moment) × (length moments ≡ count) × IsMeeting c k moments
  meeting_of count = grind (arith, many 0 count, legs_go Goes stay join at moment goes 0 count)
