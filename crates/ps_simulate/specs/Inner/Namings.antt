-- The code finds the names of propositions among the symbols of a circuit, which are the names of its inputs and
-- outputs. Only private contracts use these definitions.
use Rattle.std.specs.Prelude.{◌≡◌, ℕ, ◌<◌, ◌≤◌, Bool, false, List, length, map, Option, None, Some, slice_index_or}
use Rattle.std.specs.Prelude.{IfNone, IfSome, Vec}
use Rattle.std.specs.Global.{Global}
use Rattle.ps_hoa.specs.Files.{is_among}
use Rattle.ps_hoa.specs.Memory.{bytes_of}
use Rattle.ps_circuit.specs.Circuits.{CircuitData}
use Rattle.ps_simulate.specs.Symbols.{AreNamesOnce, IsSymbol}
use Rattle.ps_simulate.specs.declared.naming.Naming.{Naming}

-- each of the first `count` symbols names a proposition, and `places` has the index of the symbol at this proposition
pub record ArePut (names : List (List ℕ)) (controllable : List ℕ) (wanted : Bool) (symbols : List (Option (List ℕ)))
    (count : ℕ) (places : List (Option ℕ)) : Type 0 where
  pub size : length places ≡ length names
  pub put : (k : ℕ) → k < count → (p : ℕ) × IsSymbol names symbols k p × (slice_index_or places p None ≡ Some k)
  pub before : (p k : ℕ) → slice_index_or places p None ≡ Some k → k < count
  pub is : (p k : ℕ) → slice_index_or places p None ≡ Some k → IsSymbol names symbols k p
  pub side : (p k : ℕ) → slice_index_or places p None ≡ Some k → is_among p controllable ≡ wanted

-- a proposition has the index of the symbol that names it, and only propositions of the wanted kind (controllable or
-- not) have an index
pub record ArePlacesOf (names : List (List ℕ)) (controllable : List ℕ) (wanted : Bool)
    (symbols : List (Option (List ℕ))) (places : List (Option ℕ)) : Type 0 where
  pub size : length places ≡ length names
  pub placed : (p k : ℕ) → IsSymbol names symbols k p → slice_index_or places p None ≡ Some k
  pub within : (p k : ℕ) → slice_index_or places p None ≡ Some k → k < length symbols
  pub side : (p k : ℕ) → slice_index_or places p None ≡ Some k → is_among p controllable ≡ wanted

-- if the symbols are exactly the names of the wanted propositions, each once, the index of each proposition's symbol;
-- otherwise nothing
pub record ArePlacesIfNamed (names : List (List ℕ)) (controllable : List ℕ) (wanted : Bool)
    (symbols : List (Option (List ℕ))) (places : Option (Vec (Option ℕ) Global)) : Type 0 where
  pub places_of : IfSome places (λ table. ArePlacesOf names controllable wanted symbols table.items)
  pub named : IfSome places (λ _. AreNamesOnce names controllable wanted symbols)
  pub none : IfNone places (¬ AreNamesOnce names controllable wanted symbols)

abbrev pub names_of : Naming → List (List ℕ)
names_of naming = map bytes_of naming.names.now

-- the naming has, for each proposition, the index of the input or output with the proposition's name, if there is one;
-- no input has the name of an output
pub record IsNaming (c : CircuitData) (naming : Naming) : Type 0 where
  pub few : length naming.names.now ≤ 64
  pub inputs_size : length naming.inputs.items ≡ length naming.names.now
  pub outputs_size : length naming.outputs.items ≡ length naming.names.now
  pub inputs_within : (p k : ℕ) → slice_index_or naming.inputs.items p None ≡ Some k → k < length c.inputs
  pub outputs_within : (p k : ℕ) → slice_index_or naming.outputs.items p None ≡ Some k → k < length c.outputs
  pub inputs_placed : (p k : ℕ) → IsSymbol (names_of naming) c.input_names k p →
      slice_index_or naming.inputs.items p None ≡ Some k
  pub outputs_placed : (p k : ℕ) → IsSymbol (names_of naming) c.output_names k p →
      slice_index_or naming.outputs.items p None ≡ Some k
  pub inputs_alone : (p k : ℕ) → IsSymbol (names_of naming) c.input_names k p →
      slice_index_or naming.outputs.items p None ≡ None
  pub outputs_alone : (p k : ℕ) → IsSymbol (names_of naming) c.output_names k p →
      slice_index_or naming.inputs.items p None ≡ None

abbrev pub bit_at_place : List Bool → Option ℕ → Bool
bit_at_place bits None = false
bit_at_place bits (Some k) = slice_index_or bits k false
