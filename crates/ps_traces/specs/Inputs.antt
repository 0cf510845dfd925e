-- A periodic input of a circuit is a sequence of letters: a stem, and after it a lap that repeats for ever. Every
-- periodic input extends to a lasso trace of the circuit.
-- - `inputs_of moments`: the inputs of each step
-- - `GoesOnInLasso c stem lap`: some lasso trace first reads the stem and one or more repetitions of the lap, and then
--   repeats one or more repetitions of the lap for ever
-- - `EachInputGoesOn c`: each stem, with a non-empty lap that repeats after it, extends to a lasso trace, if each
--   letter has one bit for each input
use Rattle.std.specs.Prelude.{◌≡◌, ℕ, ◌<◌, Bool, List, ◌++◌, length, map, All}
use Rattle.ps_circuit.specs.Circuits.{CircuitData}
use Rattle.ps_circuit.specs.Values.{Moment}
use Rattle.ps_simulate.specs.Lassos.{AreLetters, laps_of}
use Rattle.ps_traces.specs.Traces.{IsLassoTrace}

abbrev pub inputs_of : List Moment → List (List Bool)
inputs_of moments = map (λ m. m.inputs) moments

pub record GoesOnInLasso (c : CircuitData) (stem lap : List (List Bool)) : Type 0 where
  pub before : ℕ
  pub laps : ℕ
  pub some_before : 0 < before
  pub some : 0 < laps
  pub stem_moments : List Moment
  pub lap_moments : List Moment
  pub trace : IsLassoTrace c stem_moments lap_moments
  pub stem_reads : inputs_of stem_moments ≡ stem ++ laps_of lap before
  pub lap_reads : inputs_of lap_moments ≡ laps_of lap laps

-- each letter has one bit for each input of the circuit
abbrev pub AreInputs : CircuitData → List (List Bool) → Type 0
AreInputs c letters = All (λ letter. length letter ≡ length c.inputs) letters

abbrev pub EachInputGoesOn : CircuitData → Type 0
EachInputGoesOn c =
    (stem lap : List (List Bool)) → AreInputs c stem → AreInputs c lap → 0 < length lap → GoesOnInLasso c stem lap

-- exactly one list of letters belongs to the steps of a trace
pub record HasLetters (names : List (List ℕ)) (c : CircuitData) (moments : List Moment) : Type 0 where
  pub letters : List ℕ
  pub are_letters : AreLetters names c moments letters
  pub no_others : (others : List ℕ) → AreLetters names c moments others → letters ≡ others
