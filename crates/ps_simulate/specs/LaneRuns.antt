-- Runs of a circuit on 256 stimuli at once, and the single run in each lane.
use Rattle.std.specs.Prelude.{◌≡◌, ℕ, ◌<◌, Bool, List, [], ◌∷◌, map}
use Rattle.ps_circuit.specs.Circuits.{CircuitData}
use Rattle.ps_circuit.specs.Values.{Moment, Steps, GoesOn}
use Rattle.ps_simulate.specs.Lanes.{lane_of}

-- one step of 256 runs at once: four words for each latch, input and output; the latches are those before the step
pub record LaneMoment : Type 0 where
  pub latches : List (List ℕ)
  pub inputs : List (List ℕ)
  pub outputs : List (List ℕ)

-- the step of the run in one lane, taken from a step of 256 runs at once
abbrev pub moment_in : ℕ → LaneMoment → Moment
moment_in lane m =
    record { latches = lane_of m.latches lane; inputs = lane_of m.inputs lane; outputs = lane_of m.outputs lane }

-- each of the 256 lanes takes a step of the circuit
abbrev pub StepsInLanes : CircuitData → List (List ℕ) → List (List ℕ) → List (List ℕ) → List (List ℕ) → Type 0
StepsInLanes c latches inputs outputs next =
    (lane : ℕ) → lane < 256 → Steps c (lane_of latches lane) (lane_of inputs lane) (lane_of outputs lane)
    (lane_of next lane)

-- a list of consecutive steps leads from the latch values `latches` to the latch values `last`
abbrev pub GoOnInLanes : CircuitData → List (List ℕ) → List LaneMoment → List (List ℕ) → Type 0
GoOnInLanes c latches [] last = latches ≡ last
GoOnInLanes c latches (m ∷ ms) last =
    (next : List (List ℕ)) × (m.latches ≡ latches) × StepsInLanes c latches m.inputs m.outputs next ×
    GoOnInLanes c next ms last

-- For every list of steps in 256 lanes, the steps of each lane form a run of the circuit from the latch values of that
-- lane. Each run of the circuit that begins with a lane's latch values and reads the lane's letters equals the run of
-- the lane: its outputs and its latch values are the same.
abbrev pub AreLanesPlain : CircuitData → Type 0
AreLanesPlain c =
    (latches last : List (List ℕ)) (ms : List LaneMoment) → GoOnInLanes c latches ms last →
    (lane : ℕ) → lane < 256 → GoesOn c (lane_of latches lane) (map (moment_in lane) ms) (lane_of last lane) ×
    ((plain : List Moment) (end : List Bool) → GoesOn c (lane_of latches lane) plain end →
    map (λ m. m.inputs) plain ≡ map (λ m. lane_of m.inputs lane) ms →
    (plain ≡ map (moment_in lane) ms) × (end ≡ lane_of last lane))
