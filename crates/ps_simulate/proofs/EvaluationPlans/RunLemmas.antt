-- Each of 256 simultaneous runs of a circuit behaves like a single run.
use Rattle.std.proofs.Common.{arith, ℕ, ◌<◌, Bool, List, [], ◌∷◌, map, ap}
use Rattle.std.proofs.lemmas.Simd.{map-map}
use Rattle.ps_circuit.specs.Circuits.{CircuitData, IsCircuit}
use Rattle.ps_circuit.specs.Values.{Moment, GoesOn, HasOneValues}
use Rattle.ps_simulate.specs.Lanes.{lane_of}
use Rattle.ps_simulate.specs.LaneRuns.{LaneMoment, moment_in, GoOnInLanes, AreLanesPlain}
use Rattle.ps_simulate.proofs.UniqueVerdicts.OneTrace.{runs_agree}

module _ {c : CircuitData} (is : IsCircuit c) (one : HasOneValues c) where
  -- each lane continues
  lane_goes_on : (lane : ℕ) → lane < 256 → (latches last : List (List ℕ)) (ms : List LaneMoment) →
      GoOnInLanes c latches ms last → GoesOn c (lane_of latches lane) (map (moment_in lane) ms) (lane_of last lane)
  lane_goes_on lane lt latches last [] on = ap (λ (ws : List (List ℕ)). lane_of ws lane) on
  lane_goes_on lane lt latches last (m ∷ ms) (next, at, steps, rest) = (
    lane_of next lane,
    ap (λ (ws : List (List ℕ)). lane_of ws lane) at,
    steps lane lt,
    lane_goes_on lane lt next last ms rest,
  )

  pub AreLanesPlain-circuit : AreLanesPlain c
  AreLanesPlain-circuit latches last ms on lane lt =
      let inputs_of : Moment → List Bool = λ m. m.inputs in
      let run = lane_goes_on lane lt latches last ms on in grind (arith, runs_agree, map-map)
