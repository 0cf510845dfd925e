-- Lemmas about the offsets of the lines of a text, and about the errors of a single line.
use Rattle.std.proofs.Common.{◌≡◌, ◌≢◌, ℕ, zero, suc, ◌+◌, ◌-◌, ◌<◌, ◌≤◌, ◌==◌, ◌⊎◌, Bool, true, false, rules, List, []}
use Rattle.std.proofs.Common.{◌∷◌, length, get_or, take, drop, ap, ap₂, ◌∙◌, arith, Some, slice_get, length-take}
use Rattle.std.proofs.Common.{length-drop}
use Rattle.std.proofs.lemmas.List.{length-map, drop-drop, take_all}
use Rattle.std.proofs.lemmas.List.Sums.{sum_by-cons}
use Rattle.std.proofs.lemmas.Option.{slice_get-map, slice_get_within}
use Rattle.std.proofs.lemmas.Bool.{cases_Bool}
use Rattle.std.specs.List.{prefix_len}
use Rattle.ps_text.specs.Bytes.{is_inner}
use Rattle.ps_simulate.specs.declared.fault.StimulusCause.{StimulusCause}
use Rattle.ps_simulate.specs.StimulusTexts.{lines_of, start_of, digit_of, digits_of, divider, IsDigit, StandsInLine}

-- ## Lines

-- the first line reaches to the first newline or to the end of the text
lines_of-first : (bytes : List ℕ) → 0 < length bytes →
    lines_of bytes ≡ take (prefix_len is_inner bytes) bytes ∷ lines_of (drop (prefix_len is_inner bytes + 1) bytes)
lines_of-first [] some = absurd (omega arith)
lines_of-first (b ∷ []) some = search (rules, cases_Bool)
lines_of-first (b ∷ c ∷ bytes) some = search (rules, cases_Bool, lines_of-first (c ∷ bytes) (omega arith))

pub lines_of-drop : (text : List ℕ) (start : ℕ) {n : ℕ} → start < length text →
    n ≡ prefix_len is_inner (take (length text - start) (drop start text)) →
    lines_of (drop start text) ≡ take ((start + n) - start) (drop start text) ∷ lines_of (drop ((start + n) + 1) text)
lines_of-drop text start {n} some is =
    let bytes = drop start text in
    let size : n ≡ prefix_len is_inner bytes = is ∙ ap (prefix_len is_inner)
    (take_all (length text - start) bytes (omega (arith, length-drop start text))) in
    let first : prefix_len is_inner bytes ≡ (start + n) - start = omega (arith, size) in
    let rest : drop (prefix_len is_inner bytes + 1) bytes ≡ drop ((start + n) + 1) text = grind (arith, drop-drop) in
    lines_of-first bytes (omega (arith, length-drop start text)) ∙
    ap₂ (λ (k : ℕ) (others : List ℕ). take k bytes ∷ lines_of others) first rest

-- the offset of a line's start plus the line's length is the offset of its end
pub line_length : (text : List ℕ) (start end : ℕ) → start ≤ end → end ≤ length text →
    start + length (take (end - start) (drop start text)) ≡ end
line_length text start end from within =
    omega (arith, length-take (end - start) (drop start text), length-drop start text)

-- a line ends before each later line begins
pub start_of-later : (lines : List (List ℕ)) (k m : ℕ) {line : List ℕ} → slice_get lines k ≡ Some line → k < m →
    m ≤ length lines → start_of lines k + length line + 1 ≤ start_of lines m
start_of-later [] k m there less within = absurd (omega arith)
start_of-later (l ∷ lines) k zero there less within = absurd (omega arith)
start_of-later (l ∷ lines) zero (suc m) {line} there less within =
    let same : l ≡ line = cc in
    omega (arith, sum_by-cons (λ (bytes : List ℕ). length bytes + 1) l (take m lines), ap length same)
start_of-later (l ∷ lines) (suc k) (suc m) {line} there less within =
    search (rules, sum_by-cons, start_of-later lines k m there (omega arith) (omega arith))

-- ## One line

pub digit_is : (bit : Bool) → IsDigit (digit_of bit)
digit_is bit = search rules

pub digit_of-is : (byte : ℕ) → IsDigit byte → digit_of (byte == 49) ≡ byte
digit_of-is byte h = search rules

-- a line that spells a letter is not the divider `-`
pub digits_of-divider : (letter : List Bool) → digits_of letter ≢ divider
digits_of-divider [] e = cc
digits_of-divider (true ∷ letter) e = omega (arith, ap (λ (l : List ℕ). get_or l 0 0) e)
digits_of-divider (false ∷ letter) e = omega (arith, ap (λ (l : List ℕ). get_or l 0 0) e)

-- a line that spells a letter of the right width has no error
pub letter_none : (letter : List Bool) {line : List ℕ} (start : ℕ) {width : ℕ} (cause : StimulusCause) (offset : ℕ)
    → line ≡ digits_of letter → length letter ≡ width → StandsInLine line start width cause offset → ⊥
letter_none letter start cause offset h k m = search (rules, length-map, slice_get-map, digit_is)

-- the errors of a line are not before the start of the line
pub in_line_from : (line : List ℕ) (start width : ℕ) (cause : StimulusCause) (offset : ℕ) →
    StandsInLine line start width cause offset → start ≤ offset
in_line_from line start width cause offset h = search rules

pub in_line_within : (line : List ℕ) (start width : ℕ) (cause : StimulusCause) (offset : ℕ) →
    StandsInLine line start width cause offset → (offset ≡ start) ⊎ (offset < start + length line)
in_line_within line start width cause offset h = search (rules, slice_get_within)
