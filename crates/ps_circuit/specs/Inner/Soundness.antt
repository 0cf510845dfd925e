-- The conditions of a circuit, as they are tested one by one.
-- - `CanDefine most literals`: the literals can be those that define variables
-- - `is_known variables literal`, `are_known variables c`: tests of a used literal, and of each
-- - `is_symbol_name name`, `are_names_for count names`, `are_named c`: tests of an optional name, of the names of
--   `count` inputs, latches or outputs, and of all names
use Rattle.std.specs.Prelude.{◌≢◌, ℕ, ◌==◌, ◌||◌, ◌&&◌, not, Bool, true, List, length, All, AllPairs, Option, None}
use Rattle.std.specs.Prelude.{Some}
use Rattle.std.specs.List.{list_all, list_any}
use Rattle.ps_circuit.specs.Circuits.{CircuitData, IsDefinition}
use Rattle.ps_circuit.specs.Literals.{variable}

pub record CanDefine (most : ℕ) (literals : List ℕ) : Type 0 where
  pub each : All (IsDefinition most) literals
  pub once : AllPairs (λ l m. variable l ≢ variable m) literals

-- the literal's variable is 0 or in the list
abbrev pub is_known : List ℕ → ℕ → Bool
is_known variables literal = variable literal == 0 || list_any (λ other. variable literal == other) variables

abbrev pub are_known : List ℕ → CircuitData → Bool
are_known variables c =
    list_all (λ l. is_known variables l.next) c.latches && list_all (is_known variables) c.outputs
    && list_all (λ g. is_known variables g.first && is_known variables g.second) c.gates

-- there is no name, or it has at least one byte and no newline
abbrev pub is_symbol_name : Option (List ℕ) → Bool
is_symbol_name None = true
is_symbol_name (Some bytes) = not (length bytes == 0) && not (list_any (λ b. 10 == b) bytes)

abbrev pub are_names_for : ℕ → List (Option (List ℕ)) → Bool
are_names_for count names = length names == count && list_all is_symbol_name names

abbrev pub are_named : CircuitData → Bool
are_named c =
    are_names_for (length c.inputs) c.input_names && are_names_for (length c.latches) c.latch_names
    && are_names_for (length c.outputs) c.output_names
