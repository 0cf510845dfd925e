-- The word of a circuit that reads a stem once and then a lap repeatedly, and the verdict of an automaton on this word:
-- whether the automaton accepts it.
-- - `IsLetterOf names c m letter`: in the letter, each proposition has the bit that the input or output of its name has
--   in the step m
-- - `RepeatsLatches c stem lap i j trace`: the trace reads the stem once and the lap j times. The trace ends with the
--   latch values with which reading i of the lap began (the first is reading 0). No two of the j readings began with
--   the same latch values.
-- - `IsWordOf names c stem lap word`: the word has the letters of the circuit's trace on the lasso. The letters from
--   the start of reading i of the lap to the start of reading j repeat for ever, since both readings begin with the
--   same latch values.
-- - `IsVerdictOf file c stem lap verdict`: the verdict tells whether the automaton accepts the word of the circuit's
--   trace on the lasso
use Rattle.std.specs.Prelude.{◌≡◌, ◌≢◌, ℕ, zero, suc, ◌+◌, ◌*◌, ◌^◌, ◌<◌, ◌↔◌, Bool, false, IsTrue, List, [], ◌∷◌}
use Rattle.std.specs.Prelude.{◌++◌, length, map, slice_index_or}
use Rattle.ps_label.specs.Truth.{is_in}
use Rattle.ps_hoa.specs.Files.{FileData}
use Rattle.ps_automaton.specs.Acceptance.{IsAccepted}
use Rattle.ps_circuit.specs.Circuits.{CircuitData}
use Rattle.ps_circuit.specs.Values.{Moment, GoesOn, resets}
use Rattle.ps_simulate.specs.Symbols.{IsSymbol}
use Rattle.ps_simulate.specs.Words.{TraceWordData}
use Rattle.ps_simulate.specs.declared.lassos.Verdict.{Verdict}

-- ## Letters

pub record IsLetterOf (names : List (List ℕ)) (c : CircuitData) (m : Moment) (letter : ℕ) : Type 0 where
  pub few : letter < 2 ^ length names
  pub inputs : (k p : ℕ) → IsSymbol names c.input_names k p → is_in p letter ≡ slice_index_or m.inputs k false
  pub outputs : (k p : ℕ) → IsSymbol names c.output_names k p → is_in p letter ≡ slice_index_or m.outputs k false

-- the letters of a trace, one for each step
abbrev pub AreLetters : List (List ℕ) → CircuitData → List Moment → List ℕ → Type 0
AreLetters names c [] letters = letters ≡ []
AreLetters names c (m ∷ ms) [] = ⊥
AreLetters names c (m ∷ ms) (letter ∷ letters) = IsLetterOf names c m letter × AreLetters names c ms letters

-- ## The first repetition

-- the word that repeats a lap a given number of times
abbrev pub laps_of : List (List Bool) → ℕ → List (List Bool)
laps_of lap zero = []
laps_of lap (suc laps) = laps_of lap laps ++ lap

-- the latch values before each step of a trace, followed by those after the last step
abbrev pub latches_along : List Moment → List Bool → List (List Bool)
latches_along trace last = map (λ m. m.latches) trace ++ last ∷ []

-- the lap is read again and again; these are the latch values before it is read for the k-th time, counted from 0
abbrev pub latches_before : List (List Bool) → List (List Bool) → List Moment → List Bool → ℕ → List Bool
latches_before stem lap trace last k = slice_index_or (latches_along trace last) (length stem + k * length lap) []

-- A trace reads the stem once and then the lap, which is not empty, j times. The trace ends with the latch values with
-- which reading i of the lap began (the first is reading 0). No two of the j readings began with the same latch values.
pub record RepeatsLatches (c : CircuitData) (stem lap : List (List Bool)) (i j : ℕ) (trace : List Moment) : Type 0 where
  pub has_letter : 0 < length lap
  pub last : List Bool
  pub goes_on : GoesOn c (resets c) trace last
  pub reads : map (λ m. m.inputs) trace ≡ stem ++ laps_of lap j
  pub earlier : i < j
  pub returns : latches_before stem lap trace last i ≡ last
  pub first : (k l : ℕ) → k < l → l < j → latches_before stem lap trace last k ≢ latches_before stem lap trace last l

-- ## The word

-- the letters of the trace up to the start of reading i of the lap, and those from there to the start of reading j
pub record IsWordOf (names : List (List ℕ)) (c : CircuitData) (stem lap : List (List Bool)) (word : TraceWordData) :
    Type 0 where
  pub i : ℕ
  pub j : ℕ
  pub trace : List Moment
  pub repeats : RepeatsLatches c stem lap i j trace
  pub are_letters : AreLetters names c trace (word.stem ++ word.lap)
  pub stem_is : length word.stem ≡ length stem + i * length lap

-- any two words of a circuit on a stem and a lap are equal
abbrev pub HasOneWord : List (List ℕ) → CircuitData → List (List Bool) → List (List Bool) → Type 0
HasOneWord names c stem lap = (word other : TraceWordData) → IsWordOf names c stem lap word →
    IsWordOf names c stem lap other → word ≡ other

-- ## The verdict

pub record IsVerdictOf (file : FileData) (c : CircuitData) (stem lap : List (List Bool)) (verdict : Verdict) : Type 0
  where
    pub word : TraceWordData
    pub is_word : IsWordOf file.names c stem lap word
    pub stem_is : verdict.stem ≡ length word.stem
    pub lap_is : verdict.lap ≡ length word.lap
    pub accepted : IsTrue verdict.accepted ↔ IsAccepted file word.stem word.lap

-- any two verdicts of an automaton on a circuit, a stem and a lap are equal
abbrev pub HasOneVerdict : FileData → CircuitData → List (List Bool) → List (List Bool) → Type 0
HasOneVerdict file c stem lap = (verdict other : Verdict) → IsVerdictOf file c stem lap verdict →
    IsVerdictOf file c stem lap other → verdict ≡ other
