-- The text of a stimulus has at most one answer: its letters, or its first error.
use Rattle.std.proofs.Common.{◌≡◌, ℕ, inl, inr, Bool, true, false, List, [], ◌∷◌, ◌++◌, map, length}
use Rattle.std.proofs.Common.{refl, sym, ap, ◌∙◌, arith, Ok, Err}
use Rattle.std.proofs.lemmas.List.{append-nil}
use Rattle.std.proofs.lemmas.Option.{slice_get_within}
use Rattle.ps_text.specs.Answers.{Found}
use Rattle.ps_simulate.specs.declared.fault.StimulusCause.{StimulusCause}
use Rattle.ps_simulate.specs.Faults.{rank}
use Rattle.ps_simulate.specs.Stimuli.{StimulusData}
use Rattle.ps_simulate.specs.StimulusTexts.{lines_of, digit_of, digits_of, divider, spelled, IsErrorAt, IsFirstError}
use Rattle.ps_simulate.specs.StimulusTexts.{IsStimulus, HasOneAnswer}
use Rattle.ps_simulate.proofs.Stimuli.StimulusLines.{digits_of-divider}
use Rattle.ps_simulate.proofs.Stimuli.StimulusLemmas.{divides_at, no_cause}

digit_of-injective : (x y : Bool) → digit_of x ≡ digit_of y → x ≡ y
digit_of-injective x y e = grind arith

digits_of-injective : (xs ys : List Bool) → digits_of xs ≡ digits_of ys → xs ≡ ys
digits_of-injective [] [] e = refl
digits_of-injective [] (y ∷ ys) e = cc
digits_of-injective (x ∷ xs) [] e = cc
digits_of-injective (x ∷ xs) (y ∷ ys) e = grind (arith, digit_of-injective x y, digits_of-injective xs ys)

letters_same : (xs ys : List (List Bool)) → map digits_of xs ≡ map digits_of ys → xs ≡ ys
letters_same [] [] e = refl
letters_same [] (y ∷ ys) e = cc
letters_same (x ∷ xs) [] e = cc
letters_same (x ∷ xs) (y ∷ ys) e = grind (arith, digits_of-injective x y, letters_same xs ys)

parts_same : (xs ys as' bs : List (List Bool)) → map digits_of xs ++ divider ∷ map digits_of as' ≡ map digits_of ys ++
    divider ∷ map digits_of bs → (xs ≡ ys) × (as' ≡ bs)
parts_same [] [] as' bs e = (refl, (let tail : map digits_of as' ≡ map digits_of bs = cc in letters_same as' bs tail))
parts_same [] (y ∷ ys) as' bs e = absurd (let head : digits_of y ≡ divider = cc in digits_of-divider y head)
parts_same (x ∷ xs) [] as' bs e = absurd (let head : digits_of x ≡ divider = cc in digits_of-divider x head)
parts_same (x ∷ xs) (y ∷ ys) as' bs e =
    let head : digits_of x ≡ digits_of y = cc in
    let tail : map digits_of xs ++ divider ∷ map digits_of as' ≡ map digits_of ys ++ divider ∷ map digits_of bs = cc in
    grind (arith, digits_of-injective x y head, parts_same xs ys as' bs tail)

stimulus_same : (s t : StimulusData) → s.stem ≡ t.stem → s.lap ≡ t.lap → s ≡ t
stimulus_same s t stem lap = λ i. record { stem = stem i; lap = lap i }

one_stimulus : {text : List ℕ} {width : ℕ} (split : Bool) {s t : StimulusData} → IsStimulus text width split s →
    IsStimulus text width split t → s ≡ t
one_stimulus h1 {s} {t} a b = grind (arith, stimulus_same, letters_same, parts_same)

rank-injective : (c d : StimulusCause) → rank c ≡ rank d → c ≡ d
rank-injective c d e = grind arith

one_first : (S : StimulusCause → ℕ → Type 0) (a b : Found StimulusCause) → IsFirstError S a.cause a.offset →
    IsFirstError S b.cause b.offset → a ≡ b
one_first S a b first other = grind (arith, rank-injective)

none_stands : {text : List ℕ} {width : ℕ} (split : Bool) {s : StimulusData} → IsStimulus text width split s →
    {cause : StimulusCause} {offset : ℕ} → IsErrorAt text width split cause offset → ⊥
none_stands {text} {width} split {s} is {cause} {offset} (inl l) =
    no_cause split s [] (lines_of text) width (grind (arith, append-nil)) is.stem_widths
    is.lap_widths (λ e. e) l.k l.line _ cause offset (grind (arith, slice_get_within)) l.is_letter l.in_line
none_stands false is (inr m) = (let e = m.wanted in cc)
none_stands {text} true {s} is (inr m) =
    m.none (length s.stem) (divides_at s [] (lines_of text) (is.lines ∙ sym (append-nil (spelled true s))) refl).there

pub one_answer : (text : List ℕ) (width : ℕ) (split : Bool) → HasOneAnswer text width split
one_answer text width split (Ok s) (Ok t) a b = ap Ok (one_stimulus split a b)
one_answer text width split (Ok s) (Err f) a b = absurd (none_stands split a b.stands)
one_answer text width split (Err f) (Ok s) a b = absurd (none_stands split b a.stands)
one_answer text width split (Err f) (Err g) a b = ap Err (one_first (IsErrorAt text width split) f g a b)
