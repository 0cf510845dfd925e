-- The parts of a machine whose output letters are given bit by bit.
-- - `own_propositions is_first board`: the propositions of the machine's player, ascending
-- - `AreBitPartsOf is_first board parts`: each memory state has a diagram of its next memory states, and one for each
--   proposition of the machine's player
use Rattle.std.specs.Prelude.{◌≡◌, ℕ, ◌<◌, Bool, true, not, List, [], filter, length, map, slice_index, slice_index_or}
use Rattle.std.specs.Prelude.{IsSomeAnd, is_some}
use Rattle.std.specs.List.{range_with_len}
use Rattle.ps_label.specs.Truth.{is_in}
use Rattle.ps_diagram.specs.Table.{Table, IsNode, leaf_of}
use Rattle.ps_machine.specs.BitMachines.{nodes_of}
use Rattle.ps_machine.specs.Boards.{Board}
use Rattle.ps_machine.specs.Extracting.{IsOtherLetter, is_others}
use Rattle.ps_machine.specs.declared.bit_machine.BitParts.{BitParts}

abbrev pub own_propositions : Bool → Board → List ℕ
own_propositions is_first board = filter (λ p. not (is_others is_first board p)) (range_with_len 0 board.propositions)

-- both letters have the same truth values for the other player's propositions
abbrev pub AreSameForOther : Bool → Board → ℕ → ℕ → Type 0
AreSameForOther is_first board x y =
    (p : ℕ) → p < board.propositions → is_others is_first board p ≡ true → is_in p x ≡ is_in p y

-- The diagram leads each letter of the other player to a memory state, and depends only on the other player's
-- propositions.
pub record IsNextDiagram (is_first : Bool) (board : Board) (t : Table) (memories node : ℕ) : Type 0 where
  pub held : IsNode t node
  pub leads : (x : ℕ) → IsOtherLetter is_first board x → IsSomeAnd (leaf_of t node x) (λ next. next < memories)
  pub heeds : (x y : ℕ) → AreSameForOther is_first board x y → leaf_of t node x ≡ leaf_of t node y

-- Whether the diagram has a leaf depends only on the other player's propositions, and on nothing if the machine's
-- player moves first.
pub record IsBitDiagram (is_first : Bool) (board : Board) (t : Table) (node : ℕ) : Type 0 where
  pub held : IsNode t node
  pub heeds : (x y : ℕ) → AreSameForOther is_first board x y → is_some (leaf_of t node x) ≡ is_some (leaf_of t node y)
  pub blind : is_first ≡ true → (x y : ℕ) → IsOtherLetter is_first board x → IsOtherLetter is_first board y →
      is_some (leaf_of t node x) ≡ is_some (leaf_of t node y)

-- the diagrams of the bits in a memory state
abbrev pub bits_of : BitParts → ℕ → List ℕ
bits_of parts memory = slice_index_or (map nodes_of parts.bits.items) memory []

pub record AreBitPartsOf (is_first : Bool) (board : Board) (parts : BitParts) : Type 0 where
  pub letters : parts.store.propositions ≡ board.propositions
  pub some : 0 < length parts.nodes.items
  pub each : (memory : ℕ) → memory < length parts.nodes.items →
      IsNextDiagram is_first board parts.store (length parts.nodes.items) (slice_index parts.nodes.items memory)
  pub many : length parts.bits.items ≡ length parts.nodes.items
  pub full : (memory : ℕ) → memory < length parts.nodes.items → length (bits_of parts memory) ≡
      length (own_propositions is_first board)
  pub bits : (memory place : ℕ) → memory < length parts.nodes.items → place < length (own_propositions is_first board) →
      IsBitDiagram is_first board parts.store (slice_index (bits_of parts memory) place)
