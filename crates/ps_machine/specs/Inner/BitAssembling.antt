-- `IsBitComposed board m`: the machine m, whose output letters are given bit by bit, has propositions and diagrams that
-- belong together. (For private functions.)
use Rattle.std.specs.Prelude.{◌≡◌, ℕ, ◌<◌, ◌≤◌, length, slice_index}
use Rattle.ps_hoa.specs.Sound.{AreNames}
use Rattle.ps_machine.specs.BitMachines.{BitMachineData, bits_in}
use Rattle.ps_machine.specs.BitParts.{IsBitDiagram, IsNextDiagram}
use Rattle.ps_machine.specs.Boards.{Board}
use Rattle.ps_machine.specs.Inner.Assembling.{HasRoles}

-- a machine that reads the other player's propositions, outputs those of its own player, and has the diagrams of each
-- memory state
pub record IsBitComposed (board : Board) (m : BitMachineData) : Type 0 where
  pub few_names : length m.names ≤ 64
  pub are_names : AreNames m.names
  pub as_many : length m.names ≡ board.propositions
  pub letters : m.store.propositions ≡ length m.names
  pub player : m.player < 2
  pub some : 0 < length m.nodes
  pub roles : HasRoles m.is_first board m.inputs m.outputs
  pub each : (memory : ℕ) → memory < length m.nodes →
      IsNextDiagram m.is_first board m.store (length m.nodes) (slice_index m.nodes memory)
  pub many : length m.bits ≡ length m.nodes
  pub full : (memory : ℕ) → memory < length m.nodes → length (bits_in m memory) ≡ length m.outputs
  pub bits : (memory place : ℕ) → memory < length m.nodes → place < length m.outputs →
      IsBitDiagram m.is_first board m.store (slice_index (bits_in m memory) place)
