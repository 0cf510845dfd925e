-- The circuit of a machine.
-- - `number_of_bits bits`: the number with these binary digits, lowest digit first
-- - `memory_of_code b code`: the memory state whose number is `code`; memory state 0 if no memory state has this number
-- - `memory_of b latches`: the memory state whose code the latches hold
-- - `Encodes b c`: the circuit c begins in memory state 0 of the machine b, and each of the circuit's steps is a step
--   of the machine
-- - `IsTidy c`: the circuit's variables are numbered in order, no gate reads a constant, no gate reads the same
--   variable twice, and no two gates read the same two literals
use Rattle.std.specs.Prelude.{◌≡◌, ◌≢◌, ℕ, ◌+◌, ◌*◌, ◌^◌, ◌<◌, ◌≤◌, Bool, false, cond, List, [], ◌∷◌, length, map}
use Rattle.std.specs.Prelude.{Option, Some, None, All, AllPairs, nat_lt, if◌then◌else◌, slice_index_or}
use Rattle.std.specs.List.{range_with_len}
use Rattle.ps_label.specs.Truth.{is_in}
use Rattle.ps_circuit.specs.declared.parts.Gate.{Gate}
use Rattle.ps_circuit.specs.Circuits.{CircuitData, IsCircuit, definitions}
use Rattle.ps_circuit.specs.Literals.{variable}
use Rattle.ps_circuit.specs.Values.{Steps, resets}
use Rattle.ps_machine.specs.Behaviours.{Behaviour}

abbrev pub number_of_bits : List Bool → ℕ
number_of_bits [] = 0
number_of_bits (bit ∷ bits) = cond bit 1 0 + 2 * number_of_bits bits

-- a code that belongs to no memory state stands for memory state 0
abbrev pub memory_of_code : Behaviour → ℕ → ℕ
memory_of_code b code = if nat_lt code b.memories then code else 0

abbrev pub memory_of : Behaviour → List Bool → ℕ
memory_of b latches = memory_of_code b (number_of_bits latches)

-- the letter with the given bits at the given propositions, and with no other bit
abbrev pub letter_over : List ℕ → List Bool → ℕ
letter_over [] bits = 0
letter_over (p ∷ ps) [] = 0
letter_over (p ∷ ps) (bit ∷ bits) = cond bit (2 ^ p) 0 + letter_over ps bits

-- the bits of a letter at the given propositions
abbrev pub bits_over : List ℕ → ℕ → List Bool
bits_over ps letter = map (λ p. is_in p letter) ps

-- the names of the given propositions as AIGER symbols
abbrev pub symbols_of : List (List ℕ) → List ℕ → List (Option (List ℕ))
symbols_of names ps = map (λ p. Some (slice_index_or names p [])) ps

-- A circuit's step is a step of the machine. In the memory state whose code `latches` hold, the machine reads the bits
-- `inputs`, plays the bits `outputs`, and goes to the memory state whose number `next` holds.
pub record StepsAs (b : Behaviour) (latches inputs outputs next : List Bool) : Type 0 where
  pub outputs_are : outputs ≡ bits_over b.outputs (b.plays (memory_of b latches) (letter_over b.inputs inputs))
  pub next_is : number_of_bits next ≡ b.next (memory_of b latches) (letter_over b.inputs inputs)

pub record Encodes (b : Behaviour) (c : CircuitData) : Type 0 where
  pub is_circuit : IsCircuit c
  pub input_names : c.input_names ≡ symbols_of b.names b.inputs
  pub output_names : c.output_names ≡ symbols_of b.names b.outputs
  pub latch_names : All (λ name. name ≡ None) c.latch_names
  pub resets_are : All (λ bit. bit ≡ false) (resets c)
  pub room : b.memories ≤ 2 ^ length c.latches
  -- no smaller number of latches has a code for each memory state
  pub needed : (n : ℕ) → b.memories ≤ 2 ^ n → length c.latches ≤ n
  pub steps : (latches inputs outputs next : List Bool) → Steps c latches inputs outputs next →
      StepsAs b latches inputs outputs next

-- The two literals that the gate reads have different variables, and neither is constant. The first literal is the
-- greater one, and it is less than the gate's own literal.
pub record IsTidyGate (g : Gate) : Type 0 where
  pub below : g.first < g.literal
  pub falls : g.second < g.first
  pub different : variable g.second ≢ variable g.first
  pub not_constant : 0 < variable g.second

-- the inputs, the latches and the gates have the variables from 1 on, in this order; no two gates have the same two
-- literals
pub record IsTidy (c : CircuitData) : Type 0 where
  pub numbered : definitions c ≡ map (λ v. 2 * v) (range_with_len 1 c.most)
  pub gates : All IsTidyGate c.gates
  pub once : AllPairs (λ g h. ¬ ((g.first ≡ h.first) × (g.second ≡ h.second))) c.gates
