-- The invariants of the parser of stimuli.
use Rattle.std.specs.Prelude.{◌≡◌, ℕ, ◌+◌, ◌-◌, ◌≤◌, Bool, true, false, List, [], ◌∷◌, ◌++◌, length, take, drop, All}
use Rattle.std.specs.Prelude.{Result, Ok, Err, Vec}
use Rattle.std.specs.Global.{Global}
use Rattle.ps_simulate.specs.Faults.{StimulusFault}
use Rattle.ps_text.specs.declared.faults.Fault.TheVariants.{Text, OutOfMemory}
use Rattle.ps_simulate.specs.Stimuli.{StimulusData}
use Rattle.ps_simulate.specs.StimulusTexts.{lines_of, extent, spelled, digits_of, StandsInLine, IsFirstError}

-- the lines before the offset `start` spell the letters of s; if the lap's letters have begun, the divider `-` is
-- between them and the stem's letters
pub record HasRead (text : List ℕ) (width : ℕ) (split in_lap : Bool) (start : ℕ) (s : StimulusData) : Type 0 where
  pub lines : lines_of text ≡ spelled in_lap s ++ lines_of (drop start text)
  pub start_is : start ≡ extent (spelled in_lap s)
  pub stem_widths : All (λ letter. length letter ≡ width) s.stem
  pub lap_widths : All (λ letter. length letter ≡ width) s.lap
  pub wanted : in_lap ≡ true → split ≡ true
  pub no_lap : in_lap ≡ false → s.lap ≡ []

-- the line that begins at the offset `start` ends at the offset `end`
pub record IsLineEnd (text : List ℕ) (start end : ℕ) : Type 0 where
  pub from : start ≤ end
  pub within : end ≤ length text
  pub lines : lines_of (drop start text) ≡ take (end - start) (drop start text) ∷ lines_of (drop (end + 1) text)

-- the result for a line that must spell a letter: the letter's bits, or the first error in the line
abbrev pub ReadsLine : List ℕ → ℕ → ℕ → Result (Vec Bool Global) StimulusFault → Type 0
ReadsLine line start width (Ok letter) = (line ≡ digits_of letter.items) × (length line ≡ width)
ReadsLine line start width (Err (Text cause offset)) = IsFirstError (StandsInLine line start width) cause offset
ReadsLine line start width (Err OutOfMemory) = Unit {0}
