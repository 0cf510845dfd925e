-- Finite-state controllers, and their joint runs (meetings) with the circuit of an environment. Letters are lists of
-- bits in the circuit's order: a controller reads one bit for each output of the circuit, and outputs one bit for each
-- input of the circuit.
-- - `FiniteController`: a number of memory states, the first of them, and functions that give the next memory state and
--   the output letter
-- - `IsController order c k`: k stays in its memory states and outputs a bit for each input of c; if it moves first,
--   its output does not depend on the letter that it reads
-- - `GoesJointly c k latches memory moments to last`: the joint run leads by the steps `moments` from these latches and
--   this memory state to the latches `to` and the memory state `last`
-- - `MeetsInLasso c k`: the joint run is a lasso trace: it returns to earlier latch values together with the same
--   memory state
-- - `IsRejected file c k`: the automaton does not accept the word of the lasso trace that is the joint run of c and k
use Rattle.std.specs.Prelude.{◌≡◌, ℕ, ◌<◌, Bool, List, [], ◌∷◌, length}
use Rattle.ps_hoa.specs.Files.{FileData}
use Rattle.ps_automaton.specs.Acceptance.{IsAccepted}
use Rattle.ps_circuit.specs.Circuits.{CircuitData}
use Rattle.ps_circuit.specs.Values.{Moment, GoesOn, resets}
use Rattle.ps_machine.specs.declared.key.Order.{Order}
use Rattle.ps_machine.specs.declared.key.Order.TheVariants.{Mealy, Moore}
use Rattle.ps_simulate.specs.Lassos.{AreLetters}
use Rattle.ps_traces.specs.Traces.{IsLassoTrace}

pub record FiniteController : Type 0 where
  pub size : ℕ
  pub first : ℕ
  pub next : ℕ → List Bool → ℕ
  pub plays : ℕ → List Bool → List Bool

-- a letter that the controller reads has one bit for each output of the circuit
abbrev pub HasInputWidth : CircuitData → List Bool → Type 0
HasInputWidth c letter = length letter ≡ length c.outputs

-- in the order `Moore`, the letter that the controller outputs depends only on its memory state
abbrev pub IsTimely : Order → CircuitData → FiniteController → Type 0
IsTimely Mealy c k = Unit {0}
IsTimely Moore c k =
    (memory : ℕ) (letter other : List Bool) → memory < k.size → HasInputWidth c letter → HasInputWidth c other →
    k.plays memory letter ≡ k.plays memory other

pub record IsController (order : Order) (c : CircuitData) (k : FiniteController) : Type 0 where
  pub first_within : k.first < k.size
  pub next_within : (memory : ℕ) (letter : List Bool) → memory < k.size → HasInputWidth c letter →
      k.next memory letter < k.size
  pub plays_wide : (memory : ℕ) (letter : List Bool) → memory < k.size → HasInputWidth c letter →
      length (k.plays memory letter) ≡ length c.inputs
  pub timely : IsTimely order c k

-- ## The meeting

-- at each step the controller answers the outputs of the circuit with the inputs of the circuit; the controller's
-- memory state goes from `memory` to `last`
abbrev pub AnswersMoments : FiniteController → ℕ → List Moment → ℕ → Type 0
AnswersMoments k memory [] last = memory ≡ last
AnswersMoments k memory (m ∷ ms) last =
    (m.inputs ≡ k.plays memory m.outputs) × AnswersMoments k (k.next memory m.outputs) ms last

pub record GoesJointly (c : CircuitData) (k : FiniteController) (latches : List Bool) (memory : ℕ)
    (moments : List Moment) (to : List Bool) (last : ℕ) : Type 0 where
  pub goes_on : GoesOn c latches moments to
  pub answers : AnswersMoments k memory moments last

-- the steps are a joint trace of the circuit and the controller, from the latches' reset values and the first memory
-- state
pub record IsMeeting (c : CircuitData) (k : FiniteController) (moments : List Moment) : Type 0 where
  pub latches : List Bool
  pub memory : ℕ
  pub goes : GoesJointly c k (resets c) k.first moments latches memory

-- the circuit and the controller have exactly one joint trace of the given length
pub record IsOneMeeting (c : CircuitData) (k : FiniteController) (count : ℕ) : Type 0 where
  pub moments : List Moment
  pub many : length moments ≡ count
  pub meeting : IsMeeting c k moments
  pub no_other : (others : List Moment) → length others ≡ count → IsMeeting c k others → moments ≡ others

pub record MeetsInLasso (c : CircuitData) (k : FiniteController) : Type 0 where
  pub stem : List Moment
  pub lap : List Moment
  pub some : 0 < length lap
  pub latches : List Bool
  pub memory : ℕ
  pub goes_there : GoesJointly c k (resets c) k.first stem latches memory
  pub comes_back : GoesJointly c k latches memory lap latches memory

-- the joint run of a circuit and a controller, if it is a lasso, is a lasso trace of the circuit
abbrev pub lasso_of : (c : CircuitData) (k : FiniteController) (m : MeetsInLasso c k) → IsLassoTrace c m.stem m.lap
lasso_of c k m =
    record { some = m.some; back = m.latches; goes_there = m.goes_there.goes_on; comes_back = m.comes_back.goes_on }

pub record IsRejected (file : FileData) (c : CircuitData) (k : FiniteController) : Type 0 where
  pub meeting : MeetsInLasso c k
  pub stem_letters : List ℕ
  pub lap_letters : List ℕ
  pub stem_are : AreLetters file.names c meeting.stem stem_letters
  pub lap_are : AreLetters file.names c meeting.lap lap_letters
  pub rejected : ¬ IsAccepted file stem_letters lap_letters
