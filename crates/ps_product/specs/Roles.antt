-- The propositions that belong to the inputs and outputs of a circuit.
use Rattle.std.specs.Prelude.{◌≡◌, ◌⊎◌, ℕ, ◌<◌, ◌≤◌, List, length, slice_index}
use Rattle.std.specs.List.{Contains}
use Rattle.ps_circuit.specs.Circuits.{CircuitData}
use Rattle.ps_product.specs.declared.roles.Roles.{Roles}
use Rattle.ps_simulate.specs.Symbols.{IsSymbol}

-- each proposition is the proposition of exactly one input or output of the circuit
pub record AreRoles (names : List (List ℕ)) (c : CircuitData) (roles : Roles) : Type 0 where
  pub few : length names ≤ 64
  pub inputs_each : length roles.inputs.items ≡ length c.input_names
  pub outputs_each : length roles.outputs.items ≡ length c.output_names
  pub inputs_are : (k : ℕ) → k < length roles.inputs.items → IsSymbol names c.input_names k
      (slice_index roles.inputs.items k)
  pub outputs_are : (k : ℕ) → k < length roles.outputs.items → IsSymbol names c.output_names k
      (slice_index roles.outputs.items k)
  pub inputs_differ : (j k : ℕ) → j < length roles.inputs.items → k < length roles.inputs.items →
      slice_index roles.inputs.items j ≡ slice_index roles.inputs.items k → j ≡ k
  pub outputs_differ : (j k : ℕ) → j < length roles.outputs.items → k < length roles.outputs.items →
      slice_index roles.outputs.items j ≡ slice_index roles.outputs.items k → j ≡ k
  pub apart : (p : ℕ) → Contains roles.inputs.items p → ¬ Contains roles.outputs.items p
  pub every : (p : ℕ) → p < length names → Contains roles.inputs.items p ⊎ Contains roles.outputs.items p
