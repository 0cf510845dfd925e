-- The definition of a circuit of latches and and-gates, as in AIGER.
-- - `CircuitData`: the value of a circuit: its greatest variable, its literals, and the optional names
-- - `definitions`, `readings`: the literals that define a variable, and the literals that are used
-- - `ReadsGate gates i j`, `Way`: gate i reads gate j; a gate depends on another gate, directly or indirectly
-- - `IsDraft`: all conditions on a circuit, except that no gate depends on itself
-- - `IsCircuit`: all conditions on a circuit
use Rattle.std.specs.Prelude.{◌≡◌, ◌≢◌, ℕ, ◌+◌, ◌*◌, ◌%◌, ◌<◌, ◌≤◌, ◌⊎◌, ◌^◌, List, [], ◌∷◌, ◌++◌, length, map}
use Rattle.std.specs.Prelude.{slice_get, Option, None, Some, All, AllPairs, Contains}
use Rattle.std.specs.List.{flat_map}
use Rattle.ps_circuit.specs.declared.parts.Latch.{Latch}
use Rattle.ps_circuit.specs.declared.parts.Gate.{Gate}
use Rattle.ps_circuit.specs.Literals.{variable}
use Rattle.ps_components.specs.Graphs.{Way}

pub record CircuitData : Type 0 where
  pub most : ℕ
  pub inputs : List ℕ
  pub latches : List Latch
  pub outputs : List ℕ
  pub gates : List Gate
  pub input_names : List (Option (List ℕ))
  pub latch_names : List (Option (List ℕ))
  pub output_names : List (Option (List ℕ))

-- the literals that define variables: those of the inputs, the latches and the gates
abbrev pub definitions : CircuitData → List ℕ
definitions c = c.inputs ++ map (λ l. l.literal) c.latches ++ map (λ g. g.literal) c.gates

-- the literals that are used: the next literals of the latches, the outputs, and the two literals that each gate reads
abbrev pub readings : CircuitData → List ℕ
readings c = map (λ l. l.next) c.latches ++ c.outputs ++ flat_map (λ g. g.first ∷ g.second ∷ []) c.gates

-- the literal may define a variable: it is neither negated nor constant, and its variable is at most the greatest
-- variable `most`
abbrev pub IsDefinition : ℕ → ℕ → Type 0
IsDefinition most literal = (literal % 2 ≡ 0) × (2 ≤ literal) × (literal ≤ 2 * most + 1)

-- the literal's variable is 0, or one of the literals `defined` has the same variable
abbrev pub IsKnown : List ℕ → ℕ → Type 0
IsKnown defined literal = (variable literal ≡ 0) ⊎ Contains (map variable defined) (variable literal)

-- the gate with index i reads a literal whose variable belongs to the gate with index j
pub record ReadsGate (gates : List Gate) (i j : ℕ) : Type 0 where
  pub reader : Gate
  pub read : Gate
  pub at_i : slice_get gates i ≡ Some reader
  pub at_j : slice_get gates j ≡ Some read
  pub side : (variable reader.first ≡ variable read.literal) ⊎ (variable reader.second ≡ variable read.literal)

-- the name of an input, latch or output, if there is one, has at least one byte and no newline
abbrev pub IsSymbolName : Option (List ℕ) → Type 0
IsSymbolName None = Unit {0}
IsSymbolName (Some bytes) = (0 < length bytes) × All (λ b. b ≢ 10) bytes

pub record IsDraft (c : CircuitData) : Type 0 where
  pub limit : c.most < 2 ^ 31
  pub defined : All (IsDefinition c.most) (definitions c)
  pub once : AllPairs (λ l m. variable l ≢ variable m) (definitions c)
  pub known : All (IsKnown (definitions c)) (readings c)
  pub inputs_named : length c.input_names ≡ length c.inputs
  pub latches_named : length c.latch_names ≡ length c.latches
  pub outputs_named : length c.output_names ≡ length c.outputs
  pub input_names : All IsSymbolName c.input_names
  pub latch_names : All IsSymbolName c.latch_names
  pub output_names : All IsSymbolName c.output_names

pub record IsCircuit (c : CircuitData) : Type 0 where
  pub draft : IsDraft c
  pub acyclic : (i : ℕ) → ¬ Way (ReadsGate c.gates) i i

-- the circuit c has the given parts, and is well formed
pub record IsMadeOf (parts c : CircuitData) : Type 0 where
  pub is : c ≡ parts
  pub well_formed : IsCircuit c
