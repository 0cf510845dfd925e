-- The evaluation plan for 256 simultaneous runs, which is the plan of a single run with renumbered indices. The values
-- of the gates get successive new indices, in the order of evaluation.
use Rattle.std.specs.Prelude.{◌≡◌, ◌≢◌, ℕ, ◌+◌, ◌<◌, ◌≤◌, Bool, false, List, [], ◌∷◌, map, length, slice_index_or}
use Rattle.ps_circuit.specs.Circuits.{CircuitData}
use Rattle.ps_circuit.specs.Literals.{is_negated, variable}
use Rattle.ps_simulate.specs.declared.plan.Wire.{Wire}
use Rattle.ps_simulate.specs.declared.plan.Row.{Row}
use Rattle.ps_simulate.specs.declared.plan.Plan.{Plan}
use Rattle.ps_simulate.specs.declared.lane_plan.Operands.{Operands}
use Rattle.ps_simulate.specs.declared.lane_plan.LanePlan.{LanePlan}
use Rattle.ps_simulate.specs.Plans.{IsPlan}

-- the stored form (`Wire`) of a literal whose variable is an index into the table of values
abbrev pub wire_in : ℕ → Wire
wire_in literal = record { place = variable literal; is_negated = is_negated literal }

-- a list of rows, one for each given gate; the values of the gates have successive indices, beginning with the given
-- index
abbrev pub rows_from : ℕ → List Operands → List Row
rows_from place [] = []
rows_from place (g ∷ gates) =
    record { target = place; first = wire_in g.first; second = wire_in g.second } ∷ rows_from (place + 1) gates

-- ---- renumbered indices: the list `places` has the new index of each old index

abbrev pub moved : List ℕ → ℕ → ℕ
moved places p = slice_index_or places p 0

abbrev pub move_wire : List ℕ → Wire → Wire
move_wire places w = record { place = moved places w.place; is_negated = w.is_negated }

abbrev pub move_row : List ℕ → Row → Row
move_row places r =
    record { target = moved places r.target; first = move_wire places r.first; second = move_wire places r.second }

-- the values of a renumbered table in the order of their old indices
abbrev pub unmoved : List ℕ → List Bool → List Bool
unmoved places values = map (λ p. slice_index_or values p false) places

-- the renumbering does not change the indices below `front`
abbrev pub AreKept : ℕ → List ℕ → Type 0
AreKept front places = (p : ℕ) → p < front → moved places p ≡ p

-- the values that the rows (gates) of the evaluation plan compute get successive new indices, from `front` on
abbrev pub AreInOrder : ℕ → List ℕ → List Row → Type 0
AreInOrder front places rows =
    (k : ℕ) (d : Row) → k < length rows → moved places (slice_index_or rows k d).target ≡ front + k

-- the value that the row (gate) computes has an index after the indices of the constant, the inputs and the latches
pub record IsGateRow (front size : ℕ) (r : Row) : Type 0 where
  pub behind : front ≤ r.target
  pub within : r.target < size

-- no two rows have the same target
abbrev pub AreOnce : List Row → Type 0
AreOnce rows =
    (k l : ℕ) (d : Row) → k < l → l < length rows → (slice_index_or rows k d).target ≢ (slice_index_or rows l d).target

-- each index of a table gets a new index within the table, and no two indices get the same one
pub record AreMoved (size front : ℕ) (places : List ℕ) : Type 0 where
  pub each : length places ≡ size
  pub within : (p : ℕ) → p < size → moved places p < size
  pub once : (p q : ℕ) → p < size → q < size → moved places p ≡ moved places q → p ≡ q
  pub kept : AreKept front places

-- the plan for 256 runs is the plan of a single run with renumbered indices
pub record IsLanePlan (c : CircuitData) (plan : Plan) (places : List ℕ) (p : LanePlan) : Type 0 where
  pub is_plan : IsPlan c plan
  pub are_moved : AreMoved p.size p.front places
  pub size_is : p.size ≡ plan.size
  pub front_is : p.front ≡ 1 + length c.inputs + length c.latches
  pub gates_are : rows_from p.front p.gates.items ≡ map (move_row places) plan.rows.items
  pub outputs_are : map wire_in p.outputs.items ≡ map (move_wire places) plan.outputs.items
  pub nexts_are : map wire_in p.nexts.items ≡ map (move_wire places) plan.nexts.items
