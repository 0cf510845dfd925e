-- The inputs and outputs of a circuit that carry the names of propositions. A list of propositions, as the one of an
-- automaton, has the names of all propositions and the indices of the controllable ones.
-- - `AreDistinct names`: no two of the names are equal
-- - `IsSymbol names symbols k p`: symbol k is the name of proposition p
-- - `IsPropositionOf names controllable wanted symbol p`: p is the proposition that the symbol names; it is
--   controllable exactly if `wanted` is true
-- - `AreNamesOnce names controllable wanted symbols`: the symbols name each proposition of the wanted kind
--   (controllable or not) once, and nothing else
-- - `HasSymbols role names controllable c`: the circuit has the inputs and outputs that its role (controller or
--   environment) requires
use Rattle.std.specs.Prelude.{◌≡◌, ℕ, ◌<◌, Bool, true, false, List, [], length, Option, None, Some, slice_index_or}
use Rattle.ps_hoa.specs.Files.{is_among}
use Rattle.ps_circuit.specs.Circuits.{CircuitData}
use Rattle.ps_simulate.specs.declared.role.Role.{Role}
use Rattle.ps_simulate.specs.declared.role.Role.TheVariants.{Controller, Environment}

abbrev pub AreDistinct : List (List ℕ) → Type 0
AreDistinct names = (p q : ℕ) → p < length names → q < length names →
    slice_index_or names p [] ≡ slice_index_or names q [] → p ≡ q

pub record IsSymbol (names : List (List ℕ)) (symbols : List (Option (List ℕ))) (k p : ℕ) : Type 0 where
  pub within : p < length names
  pub is : slice_index_or symbols k None ≡ Some (slice_index_or names p [])

-- the proposition that the symbol names, or `None` if there is no such proposition
abbrev pub IsPropositionOf : List (List ℕ) → List ℕ → Bool → List ℕ → Option ℕ → Type 0
IsPropositionOf names controllable wanted symbol (Some p) =
    (p < length names) × (slice_index_or names p [] ≡ symbol) × (is_among p controllable ≡ wanted)
IsPropositionOf names controllable wanted symbol None =
    (p : ℕ) → p < length names → is_among p controllable ≡ wanted → ¬ (slice_index_or names p [] ≡ symbol)

pub record AreNamesOnce (names : List (List ℕ)) (controllable : List ℕ) (wanted : Bool)
    (symbols : List (Option (List ℕ))) : Type 0 where
  pub each : (p : ℕ) → p < length names → is_among p controllable ≡ wanted → (k : ℕ) × IsSymbol names symbols k p
  pub some : (k : ℕ) → k < length symbols → (p : ℕ) × IsSymbol names symbols k p × (is_among p controllable ≡ wanted)
  pub once : (j k p : ℕ) → IsSymbol names symbols j p → IsSymbol names symbols k p → j ≡ k

-- A controller reads the propositions that are not controllable, and sets the controllable ones. An environment reads
-- the controllable propositions, and sets those that are not controllable.
abbrev pub reads_controllable : Role → Bool
reads_controllable Controller = false
reads_controllable Environment = true

abbrev pub sets_controllable : Role → Bool
sets_controllable Controller = true
sets_controllable Environment = false

pub record HasSymbols (role : Role) (names : List (List ℕ)) (controllable : List ℕ) (c : CircuitData) : Type 0 where
  pub inputs : AreNamesOnce names controllable (reads_controllable role) c.input_names
  pub outputs : AreNamesOnce names controllable (sets_controllable role) c.output_names
