-- The bits of 256 lanes, stored in lists of four words: the bit of lane 64·w + b is bit b of word w.
use Rattle.std.specs.Prelude.{◌≡◌, ℕ, ◌-◌, ◌<◌, ◌/◌, ◌%◌, ◌^◌, ◌==◌, if◌then◌else◌, Bool, List, length, map}
use Rattle.std.specs.Prelude.{slice_index}
use Rattle.std.specs.Int.{bit_at}
use Rattle.ps_circuit.specs.Circuits.{CircuitData}
use Rattle.ps_simulate.specs.declared.plan.Plan.{Plan}
use Rattle.ps_simulate.specs.declared.lane_plan.LanePlan.{LanePlan}
use Rattle.ps_simulate.specs.LanePlans.{IsLanePlan, unmoved}
use Rattle.ps_simulate.specs.Tables.{IsValueTable}

-- a word whose bits are all ones if the given Boolean is true, and all zeros otherwise
abbrev pub all_or_none : Bool → ℕ
all_or_none is_set = if is_set then 2 ^ 64 - 1 else 0

-- the bit of a value in one lane (one of the runs that are simulated together); the value's words have a bit for each
-- lane
abbrev pub lane_bit : List ℕ → ℕ → Bool
lane_bit words lane = bit_at (slice_index words (lane / 64)) (lane % 64) == 1

-- the bits of one lane, one for each entry of the list
abbrev pub lane_of : List (List ℕ) → ℕ → List Bool
lane_of rows lane = map (λ words. lane_bit words lane) rows

-- the abstract value of a simulator: a circuit, and the words of the current value of each latch
pub record LaneSimulation : Type 0 where
  pub circuit : CircuitData
  pub latches : List (List ℕ)

-- in each lane, the table of values is that of a single run with renumbered indices
pub record AreLaneTables (c : CircuitData) (p : LanePlan) (values latches : List (List ℕ)) : Type 0 where
  pub plan : Plan
  pub places : List ℕ
  pub is_lane_plan : IsLanePlan c plan places p
  pub values_each : length values ≡ p.size
  pub tables : (lane : ℕ) → lane < 256 →
      IsValueTable c plan (unmoved places (lane_of values lane)) (lane_of latches lane)
