-- The gates of a machine's circuit in the order in which they are built, without a limit on their number.
-- - `over_variables variables f d`: the literal of f, a Boolean function of the given variables
-- - `next_bit b j, output_bit b p`: a bit of the machine's step, by memory state and input letter
-- - `code_made b f latches code d`: the literal of the bit f of the machine's step, for memory states with the codes
--   `code` to `code` + 2^latches - 1
-- - `next_wires, output_wires b latches`: the literals of the latches' next values, and the literals of the outputs;
--   the gates of the outputs are built last
-- - `IsWired b c`: the circuit c has the literals and gates that the definitions of this file build for the machine b,
--   in the same order
-- - `IsOutOfLiterals b`: the gates that are built for the machine b need too many variables, so that it has no circuit
use Rattle.std.specs.Prelude.{◌≡◌, ℕ, zero, suc, ◌+◌, ◌*◌, ◌^◌, ◌≤◌, Bool, true, false, if◌then◌else◌, List, []}
use Rattle.std.specs.Prelude.{◌∷◌, length, map, slice_get, Some}
use Rattle.std.specs.List.{range_with_len}
use Rattle.ps_label.specs.Truth.{is_in}
use Rattle.ps_circuit.specs.declared.builder.Sides.{Sides}
use Rattle.ps_circuit.specs.declared.parts.Gate.{Gate}
use Rattle.ps_circuit.specs.Building.{Drafted, HasTooMany}
use Rattle.ps_circuit.specs.Circuits.{CircuitData}
use Rattle.ps_circuit.specs.Gates.{Made, mux_of}
use Rattle.ps_machine.specs.Behaviours.{Behaviour}
use Rattle.ps_aiger.specs.Encoded.{letter_over, memory_of_code}

-- ## Functions

-- The literal of a Boolean function of variables. Gates are built first for the function with the first variable true,
-- then for the function with that variable false, and then for the choice between the two. If the function does not
-- depend on its first variable, both literals are the same, and the choice needs no gate.
unfoldable pub over_variables : List ℕ → (List Bool → Bool) → Drafted → Made
over_variables [] f d = record { draft = d; literal = if f [] then 1 else 0 }
over_variables (v ∷ vs) f d =
    let high = over_variables vs (λ bits. f (true ∷ bits)) d in
    let low = over_variables vs (λ bits. f (false ∷ bits)) high.draft in
    mux_of low.draft (2 * v) high.literal low.literal

-- ## Bits of a step

-- a bit of a machine's step, as a function of the memory state and the input letter
abbrev pub StepBit : Type 0
StepBit = ℕ → ℕ → Bool

-- the bit j of the number of the next memory state, and the bit of the proposition p in the letter that the machine
-- outputs
abbrev pub next_bit : Behaviour → ℕ → StepBit
next_bit b j memory x = is_in j (b.next memory x)

abbrev pub output_bit : Behaviour → ℕ → StepBit
output_bit b p memory x = is_in p (b.plays memory x)

-- The literal of the bit f of the machine's step, for the memory states whose codes are `code` plus a number less than
-- 2^latches. If `latches` is 0, the bit is a function of the inputs; otherwise the highest of the given latches chooses
-- between two literals, each of which is built for half of the memory states.
unfoldable pub code_made : Behaviour → StepBit → ℕ → ℕ → Drafted → Made
code_made b f zero code d =
    over_variables (range_with_len 1 (length b.inputs)) (λ bits. f (memory_of_code b code) (letter_over b.inputs bits))
    d
code_made b f (suc latch) code d =
    let high = code_made b f latch (code + 2 ^ latch) d in
    let low = code_made b f latch code high.draft in
    mux_of low.draft (2 * (length b.inputs + 1 + latch)) high.literal low.literal

-- ## The circuit

pub record Wired : Type 0 where
  pub draft : Drafted
  pub literals : List ℕ

-- the literals of the given bits of the machine's step, built one after another
unfoldable pub wired : Behaviour → ℕ → List StepBit → Drafted → Wired
wired b latches [] d = record { draft = d; literals = [] }
wired b latches (f ∷ fs) d =
    let first = code_made b f latches 0 d in
    let rest = wired b latches fs first.draft in
    record { draft = rest.draft; literals = first.literal ∷ rest.literals }

abbrev pub next_wires : Behaviour → ℕ → Wired
next_wires b latches =
    wired b latches (map (next_bit b) (range_with_len 0 latches))
    (record { given = length b.inputs + latches; gates = [] })

abbrev pub output_wires : Behaviour → ℕ → Wired
output_wires b latches = wired b latches (map (output_bit b) b.outputs) (next_wires b latches).draft

-- the gates' variables are numbered from `from` on, and gate k reads the pair of literals with the index k in `sides`
pub record AreGates (from : ℕ) (sides : List Sides) (gates : List Gate) : Type 0 where
  pub many : length gates ≡ length sides
  pub each : (k : ℕ) (s : Sides) → slice_get sides k ≡ Some s →
      slice_get gates k ≡ Some (record { literal = 2 * (from + k); first = s.first; second = s.second })

-- the circuit's outputs, gates and next values of latches are those that are built for the machine, if the circuit has
-- `latches` latches
pub record IsWiredBy (b : Behaviour) (c : CircuitData) (latches : ℕ) : Type 0 where
  pub next : map (λ l. l.next) c.latches ≡ (next_wires b latches).literals
  pub outputs : c.outputs ≡ (output_wires b latches).literals
  pub gates : AreGates (length b.inputs + latches + 1) (output_wires b latches).draft.gates c.gates

abbrev pub IsWired : Behaviour → CircuitData → Type 0
IsWired b c = IsWiredBy b c (length c.latches)

-- With the fewest latches that suffice for the machine's memory states, the circuit would need more variables than
-- AIGER has literals for.
pub record IsOutOfLiterals (b : Behaviour) : Type 0 where
  pub latches : ℕ
  pub room : b.memories ≤ 2 ^ latches
  pub needed : (n : ℕ) → b.memories ≤ 2 ^ n → latches ≤ n
  pub above : HasTooMany (output_wires b latches).draft
