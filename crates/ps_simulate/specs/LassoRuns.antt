-- Runs of a circuit that reads words, which are lists of input letters. Only private contracts use these definitions.
use Rattle.std.specs.Prelude.{◌≡◌, ◌≢◌, ℕ, ◌<◌, ◌++◌, Bool, List, [], ◌∷◌, Option, None, Some, length, map, slice_get}
use Rattle.std.specs.Prelude.{slice_index_or, All, Vec}
use Rattle.std.specs.BTreeMap.{BTreeMap, btree_map_len, get}
use Rattle.std.specs.Cmp.Lexicographic.{slice_cmp}
use Rattle.std.specs.Global.{Global}
use Rattle.std.specs.Ordering.{bool_cmp}
use Rattle.std.specs.declared.cmp.Ordering.{Ordering}
use Rattle.ps_circuit.specs.Circuits.{CircuitData}
use Rattle.ps_circuit.specs.Values.{Moment, GoesOn, resets}
use Rattle.ps_simulate.specs.Inner.Namings.{IsNaming}
use Rattle.ps_simulate.specs.LassoFaults.{AreWide}
use Rattle.ps_simulate.specs.Simulations.{Simulation}
use Rattle.ps_simulate.specs.Stimuli.{letters_of}
use Rattle.ps_simulate.specs.declared.naming.Naming.{Naming}
use Rattle.ps_simulate.specs.Lassos.{AreLetters, RepeatsLatches, laps_of, latches_before}

-- the circuit can run on a lasso: each letter has a bit for each input, the lap has a letter, and the naming is one of
-- the circuit
pub record CanRun (c : CircuitData) (naming : Naming) (stem lap : List (Vec Bool Global)) : Type 0 where
  pub wide : AreWide c (letters_of stem) (letters_of lap)
  pub some : 0 < length lap
  pub is_naming : IsNaming c naming

-- the circuit can read a word, with room for the values of its outputs
pub record CanRead (c : CircuitData) (naming : Naming) (outputs : List Bool) (word : List (List Bool)) : Type 0 where
  pub wide : All (λ letter. length letter ≡ length c.inputs) word
  pub outputs_fit : length outputs ≡ length c.outputs
  pub is_naming : IsNaming c naming

-- from the latch values `from`, the circuit reads the word, and then has the latch values `last`; the letter of
-- each step is appended to the earlier letters
pub record ReadsWord (names : List (List ℕ)) (c : CircuitData) (from : List Bool) (word : List (List Bool))
    (old new : List ℕ) (last : List Bool) : Type 0 where
  pub trace : List Moment
  pub goes_on : GoesOn c from trace last
  pub reads : map (λ m. m.inputs) trace ≡ word
  pub letters : List ℕ
  pub are_letters : AreLetters names c trace letters
  pub new_is : new ≡ old ++ letters

-- the simulator's circuit, which stays the same, reads the word
pub record RunsOn (names : List (List ℕ)) (old new : Simulation) (word : List (List Bool)) (before after : List ℕ) :
    Type 0 where
  pub circuit : new.circuit ≡ old.circuit
  pub reads : ReadsWord names old.circuit old.latches word before after new.latches

-- `letters` are the letters of a trace that ends when the latch values before a reading of the lap repeat
-- for the first time
pub record RepeatsBy (names : List (List ℕ)) (c : CircuitData) (stem lap : List (List Bool)) (i : ℕ)
    (letters : List ℕ) : Type 0 where
  pub j : ℕ
  pub trace : List Moment
  pub repeats : RepeatsLatches c stem lap i j trace
  pub are_letters : AreLetters names c trace letters

-- The circuit has read the stem once, and then the lap once for each entry of `seen`. The entries of `seen` are the
-- latch values before each reading of the lap, in order, and all of them differ.
pub record HasRead (names : List (List ℕ)) (c : CircuitData) (stem lap : List (List Bool)) (seen : List (List Bool))
    (letters : List ℕ) (last : List Bool) : Type 0 where
  pub trace : List Moment
  pub goes_on : GoesOn c (resets c) trace last
  pub reads : map (λ m. m.inputs) trace ≡ stem ++ laps_of lap (length seen)
  pub are_letters : AreLetters names c trace letters
  pub seen_is : (k : ℕ) → k < length seen → slice_index_or seen k [] ≡ latches_before stem lap trace last k
  pub wide : (k : ℕ) → k < length seen → length (slice_index_or seen k []) ≡ length c.latches
  pub differ : (k l : ℕ) → k < l → l < length seen → slice_index_or seen k [] ≢ slice_index_or seen l []

-- if the latch values were seen before, the result is their index; otherwise it is None, and they are appended to the
-- seen latch values
abbrev pub IsSeen : List (List Bool) → List (List Bool) → List Bool → Option ℕ → Type 0
IsSeen old new latches (Some i) = (i < length old) × (slice_index_or old i [] ≡ latches) × (new ≡ old)
IsSeen old new latches None =
    ((k : ℕ) → k < length old → slice_index_or old k [] ≢ latches) × (new ≡ old ++ latches ∷ [])

-- the lexicographic order of lists of bits, with 0 before 1
abbrev pub bits_cmp : Vec Bool Global → Vec Bool Global → Ordering
bits_cmp one other = slice_cmp bool_cmp one.items other.items

-- the map has the index of each list of latch values that was seen, and nothing else
pub record HavePlaces (seen : List (List Bool)) (places : BTreeMap (Vec Bool Global) ℕ) : Type 0 where
  pub each : btree_map_len places ≡ length seen
  pub sound : (key : Vec Bool Global) (place : ℕ) → get bits_cmp places key ≡ Some place →
      slice_get seen place ≡ Some key.items
  pub whole : (key : Vec Bool Global) (place : ℕ) → slice_get seen place ≡ Some key.items →
      get bits_cmp places key ≡ Some place
