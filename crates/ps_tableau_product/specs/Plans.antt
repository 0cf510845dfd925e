-- What is explored to make the product of a circuit and a tableau.
use Rattle.std.specs.Prelude.{map, ℕ, List}
use Rattle.ps_hoa.specs.Memory.{bytes_of}
use Rattle.ps_circuit.specs.Circuits.{CircuitData}
use Rattle.ps_tableau_product.specs.declared.plan.Plan.{Plan}

-- the propositions' names, the circuit, and the propositions of its inputs
pub record Scene : Type 0 where
  pub names : List (List ℕ)
  pub circuit : CircuitData
  pub inputs : List ℕ

abbrev pub scene_of : Plan → Scene
scene_of plan = record {
  names = map bytes_of plan.names.now;
  circuit = plan.circuit.now;
  inputs = plan.roles.now.inputs.items;
}
