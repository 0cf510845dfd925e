-- Each text of a stimulus has an answer: its letters, or its first error. The proof goes through the text line by line.
use Rattle.std.proofs.Common.{◌≡◌, ℕ, zero, suc, ◌+◌, ◌<◌, ◌≤◌, ◌≢◌, ◌==◌, ◌⊎◌, inl, inr, Bool, true, false, cond, List}
use Rattle.std.proofs.Common.{rules, [], ◌∷◌, length, take, drop, refl, sym, ap, ap₂, arith, Some, Ok, Err, slice_get}
use Rattle.std.proofs.Common.{length-drop}
use Rattle.std.proofs.lemmas.Bool.{cases_eq, cases_lt, eq-eqb, ne_eqb}
use Rattle.std.proofs.lemmas.List.{drop-drop, length-take-le}
use Rattle.ps_text.proofs.ParsedAnswers.Decisions.{Decided, decide_as, decide_one}
use Rattle.ps_simulate.specs.declared.fault.StimulusCause.{StimulusCause}
use Rattle.ps_simulate.specs.declared.fault.StimulusCause.TheVariants.{Width, Stimulus}
use Rattle.ps_simulate.specs.Faults.{rank}
use Rattle.ps_simulate.specs.Stimuli.{StimulusData}
use Rattle.ps_simulate.specs.StimulusTexts.{put_byte, lines_of, digits_of, divider, spelled, IsDigit, StandsInLine}
use Rattle.ps_simulate.specs.StimulusTexts.{IsFirstError, HasSomeAnswer}
use Rattle.ps_simulate.specs.Inner.StimulusReading.{HasRead}
use Rattle.ps_simulate.proofs.Stimuli.StimulusLines.{digit_of-is, letter_none}
use Rattle.ps_simulate.proofs.Stimuli.StimulusSteps.{HasRead-start, HasRead-letter, HasRead-divider, at_line}
use Rattle.ps_simulate.proofs.Stimuli.StimulusSteps.{IsFirstError-in_line, not_divides, IsStimulus-end}
use Rattle.ps_simulate.proofs.Stimuli.StimulusSteps.{IsFirstError-end}

-- ## One line

-- the first byte that is not a digit
record FirstWrong (line : List ℕ) : Type 0 where
  place : ℕ
  byte : ℕ
  there : slice_get line place ≡ Some byte
  wrong : ¬ IsDigit byte
  least : (i b : ℕ) → slice_get line i ≡ Some b → ¬ IsDigit b → place ≤ i

abbrev IsLetter : List ℕ → Type 0
IsLetter line = (letter : List Bool) × (line ≡ digits_of letter)

letter_or_wrong : (line : List ℕ) → IsLetter line ⊎ FirstWrong line
letter_or_wrong [] = inl ([], refl)
letter_or_wrong (byte ∷ line) = go (decide_one (cases_eq byte 48) (cases_eq byte 49)) (letter_or_wrong line)
  where
    behind : IsDigit byte → (w : FirstWrong line) → (i b : ℕ) → slice_get (byte ∷ line) i ≡ Some b → ¬ IsDigit b →
        suc w.place ≤ i
    behind d w i b there wrong = grind arith

    go : Decided (IsDigit byte) → IsLetter line ⊎ FirstWrong line → IsLetter (byte ∷ line) ⊎ FirstWrong (byte ∷ line)
    go (inr n) rest = inr (record { place = 0; byte = byte; there = refl; wrong = n; least = grind arith })
    go (inl d) (inl (letter, e)) = inl ((byte == 49) ∷ letter, ap₂ ◌∷◌ (sym (digit_of-is byte d)) e)
    go (inl d) (inr w) = inr (record
        { place = suc w.place; byte = w.byte; there = w.there; wrong = w.wrong; least = behind d w })

module _ (line : List ℕ) (start width : ℕ) where
  abbrev LineFault : Type 0
  LineFault = (cause : StimulusCause) × (offset : ℕ) × IsFirstError (StandsInLine line start width) cause offset

  abbrev LineAnswer : Type 0
  LineAnswer = ((letter : List Bool) × (line ≡ digits_of letter) × (length line ≡ width)) ⊎ LineFault

  wrong_width : length line ≢ width →
      ((there : ℕ) → StandsInLine line start width Stimulus there → start < there) → LineFault
  wrong_width other later = (Width, start, record { stands = (other, refl); least = least })
    where
      least : (cause : StimulusCause) (there : ℕ) → StandsInLine line start width cause there →
          (start < there) ⊎ ((start ≡ there) × (rank Width ≤ rank cause))
      least Width there h = inr (sym h.1, omega arith)
      least Stimulus there h = inl (later there h)

  wrong_byte : (w : FirstWrong line) → (length line ≡ width) ⊎ (w.place ≡ 0) → LineFault
  wrong_byte w fits = (
    Stimulus,
    start + w.place,
    grind (arith, least),
  )
    where
      least : (length line ≡ width) ⊎ (w.place ≡ 0) → (cause : StimulusCause) (there : ℕ) → StandsInLine line start
          width cause there → (start + w.place < there) ⊎ ((start + w.place ≡ there) × (rank Stimulus ≤ rank cause))
      least f cause there h = grind (arith, cases_lt)

  line_answer : LineAnswer
  line_answer = go (cases_eq (length line) width) (letter_or_wrong line)
    where
      by_place : length line ≢ width → (w : FirstWrong line) → Decided (w.place ≡ 0) → LineFault
      by_place other w (inl e) = wrong_byte w (inr e)
      by_place other w (inr n) = search (rules, wrong_width, w.place, w.least)

      go : Decided (length line ≡ width) → IsLetter line ⊎ FirstWrong line → LineAnswer
      go (inl e) (inl (letter, is)) = inl (letter, is, e)
      go (inl e) (inr w) = inr (wrong_byte w (inl e))
      go (inr other) (inl (letter, is)) = inr (wrong_width other (λ there h.
          absurd (letter_none letter start Stimulus there is refl h)))
      go (inr other) (inr w) = inr (by_place other w (cases_eq w.place 0))

is_divider : (line : List ℕ) → Decided (line ≡ divider)
is_divider [] = inr (λ e. cc)
is_divider (b ∷ []) = decide_as (λ e. cc) (λ e. cc) (cases_eq b 45)
is_divider (b ∷ c ∷ line) = inr (λ e. cc)

-- ## The text

-- the first line has `size` bytes
abbrev FirstLine : List ℕ → ℕ → Type 0
FirstLine bytes size = (size ≤ length bytes) × (lines_of bytes ≡ take size bytes ∷ lines_of (drop (suc size) bytes))

first_line : (bytes : List ℕ) → 0 < length bytes → (size : ℕ) × FirstLine bytes size
first_line [] some = absurd (omega (arith, some))
first_line (b ∷ bytes) some = go (cases_eq b 10) bytes (first_line bytes)
  where
    go : Decided (b ≡ 10) → (rest : List ℕ) → (0 < length rest → (size : ℕ) × FirstLine rest size) →
        (size : ℕ) × FirstLine (b ∷ rest) size
    go (inl e) rest next = search (rules, eq-eqb)
    go (inr n) [] next = (1, (omega arith, ap (λ t. cond t ([] ∷ []) (put_byte b [])) (ne_eqb b 10 n)))
    go (inr n) (c ∷ rest) next = let l = next (omega arith) in (
      suc l.0,
      grind (arith, ne_eqb),
    )

module _ (text : List ℕ) (width : ℕ) (split : Bool) where
  abbrev Answer : Type 0
  Answer = HasSomeAnswer text width split

  -- the answer to the text when all lines were read
  at_end : (in_lap wanted : Bool) (start : ℕ) (s : StimulusData) → HasRead text width split in_lap start s →
      length text ≤ start → split ≡ wanted → Answer
  at_end false true start s h past e =
      (Err (record { cause = Stimulus; offset = length text }), IsFirstError-end h past e)
  at_end false false start s h past e = (Ok s, IsStimulus-end h past (sym e))
  at_end true wanted start s h past e = (Ok s, IsStimulus-end h past (sym (h.wanted refl)))

  -- the answer to the text at the current line, given the answer at the next line
  module _ (in_lap : Bool) (start size : ℕ) (s : StimulusData) (h : HasRead text width split in_lap start s)
      (some : start < length text) (first : FirstLine (drop start text) size)
      (later : (b : Bool) (t : StimulusData) → HasRead text width split b (start + size + 1) t → Answer) where
    abbrev line : List ℕ
    line = take size (drop start text)

    next : lines_of (drop start text) ≡ line ∷ lines_of (drop (start + size + 1) text)
    next = grind (arith, drop-drop (suc size) start text)

    ends : start + length line ≡ start + size
    ends = omega (arith, length-take-le size (drop start text) first.0)

    within : start + size ≤ length text
    within = omega (arith, first.0, some, length-drop start text)

    as_letter : (in_lap ≡ true) ⊎ (¬ (slice_get (lines_of text) (length (spelled in_lap s)) ≡ Some divider) ⊎
        (split ≡ false)) → LineAnswer line start width → Answer
    as_letter plain (inl (letter, is, fits)) = grind (arith, HasRead-letter h next ends letter is fits)
    as_letter plain (inr (cause, offset, least)) = (
      Err (record { cause = cause; offset = offset }),
      search (rules, IsFirstError-in_line, next, ends, within, not_divides),
    )

    by_line : (b wanted : Bool) → in_lap ≡ b → split ≡ wanted → Decided (line ≡ divider) → Answer
    by_line true wanted e x d = as_letter (inl e) (line_answer line start width)
    by_line false false e x d = as_letter (inr (inr x)) (line_answer line start width)
    by_line false true e x (inr other) = as_letter (grind (arith, at_line h next ends)) (line_answer line start width)
    by_line false true e x (inl is) = later true s (HasRead-divider (rw e at h) next ends is x)

  -- the answer to the text after some lines were read, by recursion on the number of remaining bytes
  from_line : (n : ℕ) {in_lap : Bool} {start : ℕ} {s : StimulusData} → HasRead text width split in_lap start s →
      length text ≤ start + n → Answer
  from_line zero {in_lap} {start} {s} h left = at_end in_lap split start s h (omega (arith, left)) refl
  from_line (suc n) {in_lap} {start} {s} h left =
      go (λ b size t k. from_line n k (omega (arith, left))) (cases_lt start (length text))
    where
      go : ((b : Bool) (size : ℕ) (t : StimulusData) → HasRead text width split b (start + size + 1) t → Answer) →
          (suc start ≤ length text) ⊎ (length text ≤ start) → Answer
      go later (inr past) = at_end in_lap split start s h past refl
      go later (inl some) =
          let l = first_line (drop start text) (omega (arith, some, length-drop start text)) in
          by_line in_lap start l.0 s h some l.1 (λ b t k. later b l.0 t k) in_lap split refl refl
          (is_divider (take l.0 (drop start text)))

pub some_stimulus : (text : List ℕ) (width : ℕ) (split : Bool) → HasSomeAnswer text width split
some_stimulus text width split = from_line text width split (length text) (HasRead-start text width split) (omega arith)
