-- The part of a circuit on which its outputs depend.
-- - `ReadsVariable c v w`: v is the variable of a gate or a latch, and w is a variable from which its value comes
-- - `IsNeededVariable c v`: an output depends on the variable v, in the same step or in a later one
-- - `IsCone c cone`: the part of c all of whose latches and gates are needed
use Rattle.std.specs.Prelude.{◌≡◌, ◌⊎◌, ℕ, ◌++◌, Bool, Contains, List, map}
use Rattle.ps_components.specs.Graphs.{Way}
use Rattle.ps_circuit.specs.Circuits.{CircuitData}
use Rattle.ps_circuit.specs.Literals.{variable}
use Rattle.ps_circuit.specs.declared.parts.Gate.{Gate}
use Rattle.ps_circuit.specs.declared.parts.Latch.{Latch}
use Rattle.ps_cone.specs.Parts.{IsPartOf}

-- a latch as a reader: it reads only its next literal
abbrev pub reader_of : Latch → Gate
reader_of l = record { literal = l.literal; first = l.next; second = l.next }

-- the latches and the gates, each with the literals from which its value comes
abbrev pub readers : CircuitData → List Gate
readers c = map reader_of c.latches ++ c.gates

pub record ReadsVariable (c : CircuitData) (v w : ℕ) : Type 0 where
  pub reader : Gate
  pub there : Contains (readers c) reader
  pub own : variable reader.literal ≡ v
  pub side : (variable reader.first ≡ w) ⊎ (variable reader.second ≡ w)

abbrev pub IsNeededVariable : CircuitData → ℕ → Type 0
IsNeededVariable c v =
    (output : ℕ) × Contains c.outputs output × ((variable output ≡ v) ⊎ Way (ReadsVariable c) (variable output) v)

pub record IsCone (c cone : CircuitData) : Type 0 where
  pub kept : List Bool
  pub part : IsPartOf c kept cone
  pub latches_needed : (l : Latch) → Contains cone.latches l → IsNeededVariable c (variable l.literal)
  pub gates_needed : (g : Gate) → Contains cone.gates g → IsNeededVariable c (variable g.literal)
