-- Functions by which contracts refer to the parts of a circuit, and to the gates that each gate reads.
use Rattle.std.specs.Prelude.{ℕ, ◌==◌, List, map, position, Option, Vec}
use Rattle.std.specs.Option.{option_map}
use Rattle.std.specs.Global.{Global}
use Rattle.ps_circuit.specs.declared.parts.Gate.{Gate}
use Rattle.ps_circuit.specs.declared.parts.Parts.{Parts}
use Rattle.ps_circuit.specs.declared.links.Links.{Links}
use Rattle.ps_circuit.specs.Circuits.{CircuitData}
use Rattle.ps_circuit.specs.Literals.{variable}

abbrev pub name_bytes : Option (Vec ℕ Global) → Option (List ℕ)
name_bytes name = option_map (λ bytes. bytes.items) name

abbrev pub data_of : Parts → CircuitData
data_of p = record {
  most = p.most;
  inputs = p.inputs.items;
  latches = p.latches.items;
  outputs = p.outputs.items;
  gates = p.gates.items;
  input_names = map name_bytes p.input_names.items;
  latch_names = map name_bytes p.latch_names.items;
  output_names = map name_bytes p.output_names.items;
}

-- the index of a variable in a list of variables, or `None` if the list doesn't have the variable
abbrev pub place_in : List ℕ → ℕ → Option ℕ
place_in variables v = position (λ other. v == other) variables

-- for each gate, the indices of the gates whose literals it reads
abbrev pub links_by : (ℕ → Option ℕ) → List Gate → List Links
links_by place_of gates =
    map (λ g. record { first = place_of (variable g.first); second = place_of (variable g.second) }) gates
