-- The stored form of a player's finite machine: a decision diagram for each memory state, and a table of rows. The
-- leaves of the diagrams are indices of rows. A row of the table has a letter to output and a next memory state.
-- - `MachineData`: a machine's propositions, its player, whether that player moves first, its diagrams and its rows
-- - `machine_row m memory x`: the row of the machine's table that is used in a memory state, if x is the other player's
--   letter
-- - `behaviour m`: the machine as functions, which give the output letter and the next memory state for a memory state
--   and a letter of the other player
-- - `IsWholeMachine m`: m is a machine whose diagrams lead to a row of its table for each memory state and letter
use Rattle.std.specs.Prelude.{◌≡◌, ℕ, ◌<◌, Bool, List, length, slice_index, slice_index_or, IsSomeAnd}
use Rattle.std.specs.Option.{unwrap_or}
use Rattle.ps_diagram.specs.Table.{Table, IsNode, leaf_of}
use Rattle.ps_machine.specs.Behaviours.{Behaviour, IsMachine, IsOutput, AreSameOn}
use Rattle.ps_machine.specs.declared.machine.Row.{Row}

-- `inputs` are the propositions that the machine reads, which belong to the other player. `outputs` are the
-- propositions that the machine outputs.
pub record MachineData : Type 0 where
  pub names : List (List ℕ)
  pub inputs : List ℕ
  pub outputs : List ℕ
  pub player : ℕ
  pub is_first : Bool
  pub store : Table
  pub nodes : List ℕ
  pub rows : List Row

-- the row whose index is a leaf of the machine's diagrams
abbrev pub row_at_leaf : MachineData → ℕ → Row
row_at_leaf m leaf = slice_index_or m.rows leaf (record { memory = 0; letter = 0 })

abbrev pub machine_row : MachineData → ℕ → ℕ → Row
machine_row m memory x = row_at_leaf m (unwrap_or (leaf_of m.store (slice_index m.nodes memory) x) (length m.rows))

abbrev pub behaviour : MachineData → Behaviour
behaviour m =
    record {
      names = m.names;
      inputs = m.inputs;
      outputs = m.outputs;
      player = m.player;
      is_first = m.is_first;
      memories = length m.nodes;
      next = λ memory x. (machine_row m memory x).memory;
      plays = λ memory x. (machine_row m memory x).letter;
    }

-- In the stored machine, the diagram of each memory state leads each letter to the index of a row of the machine's
-- table. The index of the row depends only on the propositions that the machine reads. Each row of the table has a
-- memory state to enter, and a letter of the machine's player to output.
pub record IsWholeMachine (m : MachineData) : Type 0 where
  pub is_machine : IsMachine (behaviour m)
  pub letters : m.store.propositions ≡ length m.names
  pub held : (memory : ℕ) → memory < length m.nodes → IsNode m.store (slice_index m.nodes memory)
  pub leaves : (memory x : ℕ) → memory < length m.nodes → IsSomeAnd (leaf_of m.store (slice_index m.nodes memory) x)
      (λ leaf. leaf < length m.rows)
  pub reads : (memory x y : ℕ) → memory < length m.nodes → AreSameOn m.inputs x y →
      leaf_of m.store (slice_index m.nodes memory) x ≡ leaf_of m.store (slice_index m.nodes memory) y
  pub rows : (leaf : ℕ) → leaf < length m.rows → ((row_at_leaf m leaf).memory < length m.nodes) ×
      IsOutput (behaviour m) (row_at_leaf m leaf).letter
