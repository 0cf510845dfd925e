-- The latches and gates on which an output depends.
use Rattle.std.specs.Prelude.{◌≡◌, ◌⊎◌, ◌<◌, ℕ, Bool, true, Contains, List, length, slice_get, Some}
use Rattle.std.specs.List.{filter_map}
use Rattle.ps_circuit.specs.Circuits.{CircuitData}
use Rattle.ps_circuit.specs.Drafts.{place_in}
use Rattle.ps_circuit.specs.Literals.{variable}
use Rattle.ps_circuit.specs.declared.parts.Gate.{Gate}
use Rattle.ps_components.specs.Graphs.{Digraph, IsReached}
use Rattle.ps_cone.specs.Cones.{IsNeededVariable, readers}

-- the indices of the readers whose values are outputs
abbrev pub roots_of : List ℕ → (outputs : List ℕ) → List ℕ
roots_of variables outputs = filter_map (λ o. place_in variables (variable o)) outputs

-- there is a flag for each reader. Each marked reader is needed; the readers that an output or a marked reader reads
-- are marked
pub record AreNeeded (c : CircuitData) (needed : List Bool) : Type 0 where
  pub one_each : length needed ≡ length (readers c)
  pub marked : (i : ℕ) (g : Gate) → slice_get (readers c) i ≡ Some g → slice_get needed i ≡ Some true →
      IsNeededVariable c (variable g.literal)
  pub outputs : (output i : ℕ) (g : Gate) → Contains c.outputs output →
      slice_get (readers c) i ≡ Some g → variable g.literal ≡ variable output → slice_get needed i ≡ Some true
  pub closed : (i j : ℕ) (g h : Gate) → slice_get needed i ≡ Some true → slice_get (readers c) i ≡ Some g →
      slice_get (readers c) j ≡ Some h → (variable g.first ≡ variable h.literal) ⊎ (variable g.second ≡ variable
      h.literal) → slice_get needed j ≡ Some true

-- there is a flag for each vertex: whether it is a root, or can be reached from one
pub record AreFlags (g : Digraph) (roots : List ℕ) (flags : List Bool) : Type 0 where
  pub one_each : length flags ≡ g.count
  pub reached : (v : ℕ) → slice_get flags v ≡ Some true → IsReached g roots v
  pub marked : (v : ℕ) → v < g.count → IsReached g roots v → slice_get flags v ≡ Some true
