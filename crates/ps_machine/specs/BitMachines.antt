-- The stored form of a player's finite machine whose output letters are given bit by bit. Each memory state has a
-- decision diagram whose leaves are next memory states, and one diagram for each proposition that is output.
-- - `BitMachineData`: a machine's propositions, its player, whether that player moves first, and its diagrams
-- - `bit_for ps bits p`: the truth of the proposition p, if the propositions `ps` have these bits and all others are
--   false
-- - `bit_behaviour m`: the machine as functions, which give the output letter and the next memory state for a memory
--   state and a letter of the other player
-- - `IsWholeBitMachine m`: m is a machine whose diagrams lead to a memory state for each memory state and letter
use Rattle.std.specs.Prelude.{◌≡◌, ℕ, ◌<◌, Bool, false, cond, nat_eq, List, [], ◌∷◌, length, map, slice_index, Vec}
use Rattle.std.specs.Prelude.{slice_index_or, IsSomeAnd, is_some}
use Rattle.std.specs.Global.{Global}
use Rattle.std.specs.Option.{unwrap_or}
use Rattle.ps_diagram.specs.Letters.{letter_of}
use Rattle.ps_diagram.specs.Table.{Table, IsNode, leaf_of}
use Rattle.ps_machine.specs.Behaviours.{Behaviour, IsMachine}

-- `inputs` are the propositions that the machine reads, which belong to the other player. `outputs` are the
-- propositions that the machine outputs. For each memory state, `bits` has a diagram for each of `outputs`.
pub record BitMachineData : Type 0 where
  pub names : List (List ℕ)
  pub inputs : List ℕ
  pub outputs : List ℕ
  pub player : ℕ
  pub is_first : Bool
  pub store : Table
  pub nodes : List ℕ
  pub bits : List (List ℕ)

abbrev pub nodes_of : Vec ℕ Global → List ℕ
nodes_of v = v.items

-- the diagrams of the bits in a memory state
abbrev pub bits_in : BitMachineData → ℕ → List ℕ
bits_in m memory = slice_index_or m.bits memory []

-- the truth of a proposition, if the propositions `ps` have these bits and all others are false
abbrev pub bit_for : List ℕ → List Bool → ℕ → Bool
bit_for [] bits q = false
bit_for (p ∷ ps) [] q = false
bit_for (p ∷ ps) (b ∷ bits) q = cond (nat_eq p q) b (bit_for ps bits q)

-- for each node, whether it has a leaf at the letter
abbrev pub bits_at : Table → List ℕ → ℕ → List Bool
bits_at t nodes x = map (λ node. is_some (leaf_of t node x)) nodes

abbrev pub bit_behaviour : BitMachineData → Behaviour
bit_behaviour m =
    record {
      names = m.names;
      inputs = m.inputs;
      outputs = m.outputs;
      player = m.player;
      is_first = m.is_first;
      memories = length m.nodes;
      next = λ memory x. unwrap_or (leaf_of m.store (slice_index m.nodes memory) x) 0;
      plays = λ memory x. letter_of (length m.names) (bit_for m.outputs (bits_at m.store (bits_in m memory) x));
    }

-- In the stored machine, the diagram of each memory state leads each letter to a memory state, and each memory state
-- has a diagram for each proposition that is output.
pub record IsWholeBitMachine (m : BitMachineData) : Type 0 where
  pub is_machine : IsMachine (bit_behaviour m)
  pub letters : m.store.propositions ≡ length m.names
  pub held : (memory : ℕ) → memory < length m.nodes → IsNode m.store (slice_index m.nodes memory)
  pub leaves : (memory x : ℕ) → memory < length m.nodes → IsSomeAnd (leaf_of m.store (slice_index m.nodes memory) x)
      (λ next. next < length m.nodes)
  pub many : length m.bits ≡ length m.nodes
  pub full : (memory : ℕ) → memory < length m.nodes → length (bits_in m memory) ≡ length m.outputs
  pub bits_held : (memory place : ℕ) → memory < length m.nodes → place < length m.outputs →
      IsNode m.store (slice_index (bits_in m memory) place)
