-- The machines that are stored in these parts. (For private functions.)
-- - `machine_of player is_first propositions diagrams`: the player's machine with these propositions and diagrams
-- - `bit_machine_of player is_first propositions parts`: the same, where the diagrams give its letters bit by bit
use Rattle.std.specs.Prelude.{ℕ, Bool, map}
use Rattle.ps_hoa.specs.Memory.{bytes_of}
use Rattle.ps_machine.specs.BitMachines.{BitMachineData, nodes_of}
use Rattle.ps_machine.specs.Machines.{MachineData}
use Rattle.ps_machine.specs.declared.bit_machine.BitParts.{BitParts}
use Rattle.ps_machine.specs.declared.machine.MachineParts.{MachineParts}
use Rattle.ps_machine.specs.declared.machine.Propositions.{Propositions}

abbrev pub machine_of : ℕ → Bool → Propositions → MachineParts → MachineData
machine_of player is_first propositions diagrams =
    record {
      names = map bytes_of propositions.names.items;
      inputs = propositions.inputs.items;
      outputs = propositions.outputs.items;
      player = player;
      is_first = is_first;
      store = diagrams.store;
      nodes = diagrams.nodes.items;
      rows = diagrams.rows.keys;
    }

abbrev pub bit_machine_of : ℕ → Bool → Propositions → BitParts → BitMachineData
bit_machine_of player is_first propositions parts =
    record {
      names = map bytes_of propositions.names.items;
      inputs = propositions.inputs.items;
      outputs = propositions.outputs.items;
      player = player;
      is_first = is_first;
      store = parts.store;
      nodes = parts.nodes.items;
      bits = map nodes_of parts.bits.items;
    }
