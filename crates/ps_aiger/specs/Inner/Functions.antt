-- The bits of a machine's step as functions of latches and inputs, and how their literals are built. (For private
-- functions.)
-- - `behaviour_of m, store_of m`: what a machine does, in either of the forms in which it is stored, and its store
-- - `Wanted, bit_at m w leaf`: one bit of a machine's step, at a leaf of the diagram for this bit: a bit of the next
--   memory state's number, or a bit of the output letter
-- - `node_in m w memory`: the diagram for the bit w in a memory state
-- - `node_made m w node d`: a literal, and the gates of d with the literal's gates added; the literal's value is the
--   bit w at the leaf to which the diagram node leads
-- - `IsLiteralOf m w d node literal, KnowsMade m w d known`: d already has the gates of one diagram node's literal
--   (`IsLiteralOf`), or of all literals in the table `known` (`KnowsMade`)
-- - `AreInputLiterals m literals`: the list has, for each proposition, the literal of the input that reads it
-- - `code_wanted m w latches code d`: the literal of the bit w of the machine's step, for memory states with the codes
--   `code` to `code` + 2^latches - 1
-- - `bits_wired m latches ws d`: the literals of the bits `ws` of the machine's step, built one after another
-- - `MakesLiteral, MakesLiterals old new result all`: a call extends the gates `old` of the builder to `new`; if the
--   call succeeds, `new` has exactly the gates in `all`, and `result` is the literal (or the list of literals) in `all`
use Rattle.std.specs.Prelude.{◌≡◌, ℕ, ◌+◌, ◌*◌, ◌<◌, Bool, false, Err, IfOk, List, MatchOption, length, map, None}
use Rattle.std.specs.Prelude.{Option, Result, Some, Vec, is_some, slice_get, slice_index, slice_index_or}
use Rattle.std.specs.Global.{Global}
use Rattle.std.specs.List.{range_with_len}
use Rattle.std.specs.Option.{unwrap_or}
use Rattle.ps_hoa.specs.Files.{is_among}
use Rattle.ps_label.specs.Truth.{is_in}
use Rattle.ps_diagram.specs.Table.{Table, leaf_of}
use Rattle.ps_machine.specs.declared.machine.Row.{Row}
use Rattle.ps_machine.specs.Behaviours.{Behaviour}
use Rattle.ps_machine.specs.BitMachines.{BitMachineData, IsWholeBitMachine, bit_behaviour, bits_in}
use Rattle.ps_machine.specs.Machines.{IsWholeMachine, behaviour, row_at_leaf}
use Rattle.ps_aiger.specs.declared.stored.Stored.{Stored}
use Rattle.ps_aiger.specs.declared.stored.Stored.TheVariants.{Bits, Rows}
use Rattle.ps_aiger.specs.declared.stored.Wanted.{Wanted}
use Rattle.ps_aiger.specs.declared.stored.Wanted.TheVariants.{Next, Output}
use Rattle.ps_aiger.specs.Encoded.{letter_over}
use Rattle.ps_aiger.specs.Wires.{StepBit, Wired, code_made, over_variables, wired}
use Rattle.ps_circuit.specs.declared.encode_fault.EncodeFault.{EncodeFault}
use Rattle.ps_circuit.specs.declared.encode_fault.EncodeFault.TheVariants.{CircuitTooLarge}
use Rattle.ps_circuit.specs.Building.{Drafted, Extends, HasTooMany, IsHeld}
use Rattle.ps_circuit.specs.Gates.{Made}

-- ## Machines in either form

abbrev pub behaviour_of : Stored → Behaviour
behaviour_of (Rows m) = behaviour m.now
behaviour_of (Bits m) = bit_behaviour m.now

abbrev pub store_of : Stored → Table
store_of (Rows m) = m.now.store
store_of (Bits m) = m.now.store

abbrev pub IsWhole : Stored → Type 0
IsWhole (Rows m) = IsWholeMachine m.now
IsWhole (Bits m) = IsWholeBitMachine m.now

-- the bit of a row, which has a letter to output and a next memory state
abbrev pub bit_of_row : Wanted → Row → Bool
bit_of_row (Next j) row = is_in j row.memory
bit_of_row (Output place p) row = is_in p row.letter

abbrev pub bit_of_leaf : Wanted → Option ℕ → Bool
bit_of_leaf (Next j) leaf = is_in j (unwrap_or leaf 0)
bit_of_leaf (Output place p) leaf = is_some leaf

abbrev pub bit_at : Stored → Wanted → Option ℕ → Bool
bit_at (Rows m) w leaf = bit_of_row w (row_at_leaf m.now (unwrap_or leaf (length m.now.rows)))
bit_at (Bits m) w leaf = bit_of_leaf w leaf

abbrev pub node_of_bit : BitMachineData → Wanted → ℕ → ℕ
node_of_bit m (Next j) memory = slice_index m.nodes memory
node_of_bit m (Output place p) memory = slice_index (bits_in m memory) place

abbrev pub node_in : Stored → Wanted → ℕ → ℕ
node_in (Rows m) w memory = slice_index m.now.nodes memory
node_in (Bits m) w memory = node_of_bit m.now w memory

-- an output has its own place
abbrev pub IsWanted : List ℕ → Wanted → Type 0
IsWanted outputs (Next j) = Unit {0}
IsWanted outputs (Output place p) = slice_get outputs place ≡ Some p

-- all outputs, in their order
pub record AreOutputs (outputs : List ℕ) (ws : List Wanted) : Type 0 where
  pub many : length ws ≡ length outputs
  pub each : (k : ℕ) → k < length outputs → slice_get ws k ≡ Some (Output k (slice_index outputs k))

-- ## Literals

-- a literal, and the gates of d with the literal's gates added; at each input letter, the literal's value is the bit w
-- at the leaf to which the diagram node leads
unfoldable pub node_made : Stored → Wanted → ℕ → Drafted → Made
node_made m w node d =
    over_variables (range_with_len 1 (length (behaviour_of m).inputs)) (λ bits.
    bit_at m w (leaf_of (store_of m) node (letter_over (behaviour_of m).inputs bits))) d

-- `literal` is the literal of the bit w for the node, and all of its gates exist in d: building it again would add no
-- gate
pub record IsLiteralOf (m : Stored) (w : Wanted) (d : Drafted) (node literal : ℕ) : Type 0 where
  pub held : IsHeld d literal
  pub made : node_made m w node d ≡ record { draft = d; literal = literal }

abbrev pub KnowsMade : Stored → Wanted → Drafted → (ℕ → Option ℕ) → Type 0
KnowsMade m w d known = (node literal : ℕ) → known node ≡ Some literal → IsLiteralOf m w d node literal

-- the literal that a table has for a node
abbrev pub literal_at : List (Option ℕ) → ℕ → Option ℕ
literal_at literals node = slice_index_or literals node None

-- the literal of the input that reads the proposition, or None if there is no such input
abbrev pub IsInputLiteral : List ℕ → ℕ → Option ℕ → Type 0
IsInputLiteral inputs p found = MatchOption found (is_among p inputs ≡ false)
    (λ literal. (place : ℕ) × (slice_get inputs place ≡ Some p) × (literal ≡ 2 * (place + 1)))

-- the list has, for each proposition, the literal of the input that reads it
pub record AreInputLiterals (m : Stored) (literals : List (Option ℕ)) : Type 0 where
  pub many : length literals ≡ (store_of m).propositions
  pub each : (p : ℕ) (d : Option ℕ) → p < (store_of m).propositions →
      IsInputLiteral (behaviour_of m).inputs p (slice_index_or literals p d)

-- the bit w of the machine's step, as a function of the memory state and the input letter
abbrev pub bit_wanted : Behaviour → Wanted → StepBit
bit_wanted b w memory x = bit_of_row w (record { memory = b.next memory x; letter = b.plays memory x })

abbrev pub code_wanted : Stored → Wanted → ℕ → ℕ → Drafted → Made
code_wanted m w latches code d = code_made (behaviour_of m) (bit_wanted (behaviour_of m) w) latches code d

abbrev pub bits_wired : Stored → ℕ → List Wanted → Drafted → Wired
bits_wired m latches ws d = wired (behaviour_of m) latches (map (bit_wanted (behaviour_of m)) ws) d

-- the existing gates remain; the function returns the literal in `all`, or fails, because the gates in `all` need too
-- many variables or memory ran out
pub record MakesLiteral (old new : Drafted) (result : Result ℕ EncodeFault) (all : Made) : Type 0 where
  pub extends : Extends old new
  pub held : IfOk result (IsHeld new)
  pub made : IfOk result (λ literal. all ≡ record { draft = new; literal = literal })
  pub too_large : result ≡ Err CircuitTooLarge → HasTooMany all.draft

-- the existing gates remain; the function returns the literals in `all`, or fails, because the gates in `all` need too
-- many variables or memory ran out
pub record MakesLiterals (old new : Drafted) (result : Result (Vec ℕ Global) EncodeFault) (all : Wired) : Type 0 where
  pub extends : Extends old new
  pub made : IfOk result (λ literals. all ≡ record { draft = new; literals = literals.items })
  pub too_large : result ≡ Err CircuitTooLarge → HasTooMany all.draft
