-- The text of a stimulus has a line of digits for each letter, with one digit for each input. With `split`, a line `-`,
-- the divider, separates the letters of the stem (read once) from those of the lap (read repeatedly); without it, all
-- letters belong to the stem.
-- - `lines_of text, start_of lines k`: the lines without their newlines; the offset of the first byte of line k
-- - `IsStimulus text width split s`: the lines of the text spell the letters of the stimulus s
-- - `IsErrorAt text width split cause offset`: there is an error with this cause at this offset
-- - `IsFirstError S cause offset`: the first of the errors in S; at one offset, `Stimulus` precedes `Width`
-- - `ReadsStimulus text width split answer`: the answer is the stimulus that the text spells, or the first error in the
--   text
use Rattle.std.specs.Prelude.{◌≡◌, ◌≢◌, ℕ, ◌+◌, ◌<◌, ◌≤◌, ◌⊎◌, ◌==◌, Bool, true, false, if◌then◌else◌, List, [], ◌∷◌}
use Rattle.std.specs.Prelude.{◌++◌, length, map, take, slice_get, sum_by, All, Some, Result, Ok, Err}
use Rattle.ps_text.specs.Answers.{Found}
use Rattle.ps_simulate.specs.declared.fault.StimulusCause.{StimulusCause}
use Rattle.ps_simulate.specs.declared.fault.StimulusCause.TheVariants.{Width, Stimulus}
use Rattle.ps_simulate.specs.Faults.{StimulusFault}
use Rattle.ps_text.specs.Faults.{UnlessMemory}
use Rattle.ps_simulate.specs.Faults.{rank}
use Rattle.ps_simulate.specs.Stimuli.{StimulusData, stem_of}

-- ## Lines

-- the lines of a text with one more byte at the front
abbrev pub put_byte : ℕ → List (List ℕ) → List (List ℕ)
put_byte b [] = (b ∷ []) ∷ []
put_byte b (line ∷ lines) = (b ∷ line) ∷ lines

-- A newline ends a line. The bytes after the last newline form a line if there are any.
abbrev pub lines_of : List ℕ → List (List ℕ)
lines_of [] = []
lines_of (b ∷ bytes) = if b == 10 then [] ∷ lines_of bytes else put_byte b (lines_of bytes)

-- the number of bytes of the given lines and of one newline after each line
abbrev pub extent : List (List ℕ) → ℕ
extent lines = sum_by (λ line. length line + 1) lines

abbrev pub start_of : List (List ℕ) → ℕ → ℕ
start_of lines k = extent (take k lines)

-- ## Stimuli

abbrev pub digit_of : Bool → ℕ
digit_of bit = if bit then 49 else 48

abbrev pub digits_of : List Bool → List ℕ
digits_of letter = map digit_of letter

-- the line `-`
abbrev pub divider : List ℕ
divider = 45 ∷ []

-- the lines that spell a stimulus: the lines of the stem's letters and, if the given Boolean is true, the divider and
-- the lines of the lap's letters
abbrev pub spelled : Bool → StimulusData → List (List ℕ)
spelled false s = map digits_of s.stem
spelled true s = map digits_of s.stem ++ divider ∷ map digits_of s.lap

pub record IsStimulus (text : List ℕ) (width : ℕ) (split : Bool) (s : StimulusData) : Type 0 where
  pub lines : lines_of text ≡ spelled split s
  pub stem_widths : All (λ letter. length letter ≡ width) s.stem
  pub lap_widths : All (λ letter. length letter ≡ width) s.lap
  pub no_lap : split ≡ false → s.lap ≡ []

-- ## Errors

abbrev pub IsDigit : ℕ → Type 0
IsDigit byte = (byte ≡ 48) ⊎ (byte ≡ 49)

-- a divider is required, and line k is the first line `-`
pub record Divides (split : Bool) (lines : List (List ℕ)) (k : ℕ) : Type 0 where
  pub wanted : split ≡ true
  pub there : slice_get lines k ≡ Some divider
  pub first : (j : ℕ) → j < k → slice_get lines j ≢ Some divider

-- line k exists, and must represent a letter
pub record IsLetterLine (split : Bool) (lines : List (List ℕ)) (k : ℕ) (line : List ℕ) : Type 0 where
  pub there : slice_get lines k ≡ Some line
  pub letter : ¬ Divides split lines k

-- The errors in the line of a letter. A wrong length is reported at the first byte of the line, and a byte that is not
-- a digit is reported at its own offset.
abbrev pub StandsInLine : List ℕ → ℕ → ℕ → StimulusCause → ℕ → Type 0
StandsInLine line start width Width offset = (length line ≢ width) × (offset ≡ start)
StandsInLine line start width Stimulus offset =
    (j : ℕ) × (byte : ℕ) × (slice_get line j ≡ Some byte) × ¬ IsDigit byte × (offset ≡ start + j)

pub record StandsInLetter (text : List ℕ) (width : ℕ) (split : Bool) (cause : StimulusCause) (offset : ℕ) : Type 0 where
  pub k : ℕ
  pub line : List ℕ
  pub is_letter : IsLetterLine split (lines_of text) k line
  pub in_line : StandsInLine line (start_of (lines_of text) k) width cause offset

-- a divider is required, but no line is `-`
pub record MissesDivider (text : List ℕ) (split : Bool) (cause : StimulusCause) (offset : ℕ) : Type 0 where
  pub wanted : split ≡ true
  pub none : (k : ℕ) → slice_get (lines_of text) k ≢ Some divider
  pub cause_is : cause ≡ Stimulus
  pub offset_is : offset ≡ length text

abbrev pub IsErrorAt : List ℕ → ℕ → Bool → StimulusCause → ℕ → Type 0
IsErrorAt text width split cause offset =
    StandsInLetter text width split cause offset ⊎ MissesDivider text split cause offset

-- ## The answer

pub record IsFirstError (S : StimulusCause → ℕ → Type 0) (cause : StimulusCause) (offset : ℕ) : Type 0 where
  pub stands : S cause offset
  pub least : (other : StimulusCause) (there : ℕ) → S other there →
      (offset < there) ⊎ ((offset ≡ there) × (rank cause ≤ rank other))

abbrev pub ReadsStimulus : List ℕ → ℕ → Bool → Result StimulusData (Found StimulusCause) → Type 0
ReadsStimulus text width split (Ok s) = IsStimulus text width split s
ReadsStimulus text width split (Err found) = IsFirstError (IsErrorAt text width split) found.cause found.offset

-- the result of the parser: the answer to the text, or out of memory
abbrev pub IsStimulusAnswer : List ℕ → ℕ → Bool → Result StimulusData StimulusFault → Type 0
IsStimulusAnswer text width split result = UnlessMemory (ReadsStimulus text width split) result

-- the answer to the text of a stimulus without a lap
abbrev pub ReadsLetters : List ℕ → ℕ → Result (List (List Bool)) (Found StimulusCause) → Type 0
ReadsLetters text width (Ok letters) = ReadsStimulus text width false (Ok (stem_of letters))
ReadsLetters text width (Err found) = ReadsStimulus text width false (Err found)

abbrev pub IsLettersAnswer : List ℕ → ℕ → Result (List (List Bool)) StimulusFault → Type 0
IsLettersAnswer text width result = UnlessMemory (ReadsLetters text width) result

abbrev pub HasOneAnswer : List ℕ → ℕ → Bool → Type 0
HasOneAnswer text width split =
    (answer other : Result StimulusData (Found StimulusCause)) → ReadsStimulus text width split answer →
    ReadsStimulus text width split other → answer ≡ other

-- Each text of a stimulus has an answer: its letters, or its first error. The definition is about texts, not about
-- calls: a call may also fail because memory runs out.
abbrev pub HasSomeAnswer : List ℕ → ℕ → Bool → Type 0
HasSomeAnswer text width split =
    (answer : Result StimulusData (Found StimulusCause)) × ReadsStimulus text width split answer
