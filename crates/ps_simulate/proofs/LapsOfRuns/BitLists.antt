-- Letters whose bits are in a single list.
use Rattle.std.proofs.Common.{◌≡◌, ℕ, zero, suc, ◌+◌, ◌*◌, ◌<◌, ◌≤◌, Bool, List, [], ◌∷◌, ◌++◌, length, take, drop}
use Rattle.std.proofs.Common.{refl, ap, arith, Some, slice_get, length-drop, length-append, false, inr, Err, rules}
use Rattle.std.proofs.Math.Nat.{mul-le-mul_right}
use Rattle.std.proofs.lemmas.List.{take-append-le, drop-append-le, take_all, drop-drop, nil_from_length}
use Rattle.ps_text.specs.declared.faults.Fault.TheVariants.{Text, OutOfMemory}
use Rattle.ps_simulate.specs.Faults.{StimulusFault}
use Rattle.ps_simulate.specs.Stimuli.{StimulusData, letters_in}
use Rattle.ps_simulate.specs.StimulusTexts.{lines_of, IsLettersAnswer}
use Rattle.ps_simulate.specs.Inner.StimulusReading.{HasRead, ReadsLine}
use Rattle.ps_simulate.proofs.Stimuli.StimulusSteps.{IsStimulusAnswer-line}

pub length-letters_in : (width count : ℕ) (bits : List Bool) → length (letters_in width count bits) ≡ count
length-letters_in width zero bits = refl
length-letters_in width (suc count) bits = ap suc (length-letters_in width count (drop width bits))

mul_suc : (m n : ℕ) → suc m * n ≡ n + m * n
mul_suc m n = grind arith

-- if `bits` has the bits of count + 1 letters, dropping the first letter's bits leaves those of `count` letters
rest_length : (width count : ℕ) (bits : List Bool) → length bits ≡ suc count * width →
    (length (drop width bits) ≡ count * width) × (width ≤ length bits)
rest_length width count bits whole = grind (arith, mul_suc, length-drop)

-- if `count` letters of `width` bits have one more letter appended, the number of bits is (count + 1) * width
pub whole-push : {width : ℕ} (count : ℕ) (bits letter : List Bool) → length bits ≡ count * width →
    length letter ≡ width → length (bits ++ letter) ≡ suc count * width
whole-push {width} count bits letter whole fits = omega (arith, length-append bits letter, mul_suc count width)

-- if the bits of a letter are appended to the list of bits, the letters in this list are the earlier letters, followed
-- by the appended letter
pub letters_in-push : {width : ℕ} (count : ℕ) (bits letter : List Bool) → length bits ≡ count * width →
    length letter ≡ width → letters_in width (suc count) (bits ++ letter) ≡ letters_in width count bits ++ letter ∷ []
letters_in-push {width} zero bits letter whole fits = search (rules, nil_from_length, take_all)
letters_in-push {width} (suc count) bits letter whole fits =
    let rest = rest_length width count bits whole in
    search (rules, take-append-le, drop-append-le, letters_in-push count (drop width bits) letter rest.0 fits)

-- the letter at the index i has the `width` bits from i * width on
pub slice_get-letters_in : (width count : ℕ) (bits : List Bool) (i : ℕ) → i < count →
    slice_get (letters_in width count bits) i ≡ Some (take width (drop (i * width) bits))
slice_get-letters_in width zero bits i lt = absurd (omega arith)
slice_get-letters_in width (suc count) bits zero lt = search rules
slice_get-letters_in width (suc count) bits (suc i) lt =
    search (rules, drop-drop, slice_get-letters_in width count (drop width bits) i (omega arith))

-- the bits of the letter at the index `place` end within the list of all bits
pub letter_within : (place count width : ℕ) {size : ℕ} → place < count → size ≡ count * width →
    place * width + width ≤ size
letter_within place count width lt is = search (rules, mul-le-mul_right)

-- let a text need no divider, and let the lines before the current line be without errors; then the current line's
-- first error is the first error of the text
pub IsLettersAnswer-line : {text : List ℕ} {width start end : ℕ} {s : StimulusData} →
    HasRead text width false false start s → {line : List ℕ}
    → lines_of (drop start text) ≡ line ∷ lines_of (drop (end + 1) text) → start + length line ≡ end →
    start < length text → end ≤ length text
    → (fault : StimulusFault) → ReadsLine line start width (Err fault) → IsLettersAnswer text width (Err fault)
IsLettersAnswer-line {text} {width} {start} {end} {s} h {line} next length_is some within (Text cause offset) first =
    IsStimulusAnswer-line h next length_is some within (inr (inr refl)) (Text cause offset) first
IsLettersAnswer-line h next length_is some within OutOfMemory first = tt
