-- The lasso traces of a circuit that read a stimulus: the letters of the stem, and then those of the lap for ever.
-- - `input_at stem lap t`: the letter at the index t of the infinite word that has the stem, and then the lap for ever
-- - `IsWordOn names c s stem lap`: the lists of letters `stem` and `lap` are the word of a lasso trace of the circuit
--   that reads the stimulus s. The trace need not return to earlier latches at the end of the first lap of s: its own
--   stem and lap may be longer.
use Rattle.std.specs.Prelude.{◌≡◌, ℕ, ◌-◌, ◌%◌, Bool, List, [], length, nat_lt, if◌then◌else◌, slice_index_or}
use Rattle.ps_circuit.specs.Circuits.{CircuitData}
use Rattle.ps_simulate.specs.Stimuli.{StimulusData}
use Rattle.ps_traces.specs.Inputs.{inputs_of}
use Rattle.ps_traces.specs.Traces.{IsLassoWord}

abbrev pub input_at : (stem lap : List (List Bool)) → ℕ → List Bool
input_at stem lap t =
    if nat_lt t (length stem) then slice_index_or stem t []
    else slice_index_or lap ((t - length stem) % length lap) []

pub record IsWordOn (names : List (List ℕ)) (c : CircuitData) (s : StimulusData) (stem lap : List ℕ) : Type 0 where
  pub word : IsLassoWord names c stem lap
  pub reads : (t : ℕ) →
      input_at (inputs_of word.stem_moments) (inputs_of word.lap_moments) t ≡ input_at s.stem s.lap t
