-- Lasso traces of a circuit, which return to earlier values of the latches, and their words.
-- - `IsLassoTrace c stem lap`: the stem and then the lap, the part that repeats, are a trace; the latches are the same
--   before and after the lap
-- - `IsLassoWord names c stem lap`: the lists of letters `stem` and `lap` are the word of a lasso trace of the circuit
-- - `AllAccepted file c`: the automaton accepts each lasso word of the circuit
-- - `NoneAccepted file c`: the automaton accepts no lasso word of the circuit
use Rattle.std.specs.Prelude.{ℕ, ◌<◌, Bool, List, length}
use Rattle.ps_hoa.specs.Files.{FileData}
use Rattle.ps_automaton.specs.Acceptance.{IsAccepted}
use Rattle.ps_circuit.specs.Circuits.{CircuitData}
use Rattle.ps_circuit.specs.Values.{Moment, GoesOn, resets}
use Rattle.ps_simulate.specs.Lassos.{AreLetters}

pub record IsLassoTrace (c : CircuitData) (stem lap : List Moment) : Type 0 where
  pub some : 0 < length lap
  pub back : List Bool
  pub goes_there : GoesOn c (resets c) stem back
  pub comes_back : GoesOn c back lap back

-- the letters of a lasso trace; each letter has the inputs and outputs of one step, as bits of the propositions with
-- their names
pub record IsLassoWord (names : List (List ℕ)) (c : CircuitData) (stem lap : List ℕ) : Type 0 where
  pub stem_moments : List Moment
  pub lap_moments : List Moment
  pub trace : IsLassoTrace c stem_moments lap_moments
  pub stem_letters : AreLetters names c stem_moments stem
  pub lap_letters : AreLetters names c lap_moments lap

abbrev pub AllAccepted : FileData → CircuitData → Type 0
AllAccepted file c = (stem lap : List ℕ) → IsLassoWord file.names c stem lap → IsAccepted file stem lap

abbrev pub NoneAccepted : FileData → CircuitData → Type 0
NoneAccepted file c = (stem lap : List ℕ) → IsLassoWord file.names c stem lap → ¬ IsAccepted file stem lap
