-- The invariant of the parser of stimuli, and the answers that follow from it.
use Rattle.std.proofs.Common.{◌≡◌, ℕ, zero, suc, ◌+◌, ◌-◌, ◌<◌, ◌⊎◌, inl, inr, Bool, true, false, List, [], ◌∷◌, ◌++◌}
use Rattle.std.proofs.Common.{map, length, refl, sym, ap, ◌∙◌, arith, Some, slice_get, option_map, All}
use Rattle.std.proofs.lemmas.List.{length-map, append_assoc}
use Rattle.std.proofs.lemmas.Option.{slice_get-map, slice_get_within, get_or_from_slice_get}
use Rattle.std.proofs.lemmas.Bool.{cases_order}
use Rattle.ps_simulate.specs.declared.fault.StimulusCause.{StimulusCause}
use Rattle.ps_simulate.specs.Stimuli.{StimulusData}
use Rattle.ps_simulate.specs.StimulusTexts.{digits_of, divider, spelled, Divides, IsLetterLine, StandsInLine}
use Rattle.ps_simulate.proofs.Stimuli.StimulusLines.{digits_of-divider, letter_none}

-- ## Entries of lists

slice_get-left : {X : Type 0} (xs ys : List X) (k : ℕ) → k < length xs → slice_get (xs ++ ys) k ≡ slice_get xs k
slice_get-left [] ys k lt = absurd (omega arith)
slice_get-left (x ∷ xs) ys zero lt = refl
slice_get-left (x ∷ xs) ys (suc k) lt = slice_get-left xs ys k (omega arith)

pub slice_get-right : {X : Type 0} (xs ys : List X) (k m : ℕ) → k ≡ length xs + m →
    slice_get (xs ++ ys) k ≡ slice_get ys m
slice_get-right [] ys k m e = ap (slice_get ys) (omega arith)
slice_get-right (x ∷ xs) ys zero m e = absurd (omega arith)
slice_get-right (x ∷ xs) ys (suc k) m e = slice_get-right xs ys k m (omega arith)

All-slice_get : {X : Type 0} (P : X → Type 0) (xs : List X) (k : ℕ) {x : X} → All P xs → slice_get xs k ≡ Some x → P x
All-slice_get P xs k {x} all there =
    rw (get_or_from_slice_get xs k x x there) at (all k x (slice_get_within xs k x there))

-- if line k of the lines that spell a list of letters exists, it spells letter k of the list
pub mapped : (letters : List (List Bool)) (k : ℕ) {line : List ℕ} → slice_get (map digits_of letters) k ≡ Some line
    → (letter : List Bool) × (slice_get letters k ≡ Some letter) × (line ≡ digits_of letter)
mapped letters k {line} there = grind (arith, slice_get-map, option_map)

mapped_none : (letters : List (List Bool)) (width k start : ℕ) {line : List ℕ} (cause : StimulusCause) (offset : ℕ) →
    All (λ letter. length letter ≡ width) letters
    → slice_get (map digits_of letters) k ≡ Some line → StandsInLine line start width cause offset → ⊥
mapped_none letters width k start {line} cause offset widths there stands =
    let m = mapped letters k there in
    letter_none m.0 start cause offset m.2 (All-slice_get (λ letter. length letter ≡ width) letters k widths m.1) stands

pub no_divider : (letters : List (List Bool)) (k : ℕ) → slice_get (map digits_of letters) k ≡ Some divider → ⊥
no_divider letters k there = (let m = mapped letters k there in digits_of-divider m.0 (sym m.2))

-- ## Lines that spell letters

-- if a divider is required, the line after the lines that spell the stem's letters is the divider
pub divides_at : {split : Bool} (s : StimulusData) (rest lines : List (List ℕ)) → lines ≡ spelled true s ++ rest →
    split ≡ true → Divides split lines (length s.stem)
divides_at s rest lines is wanted = record {
  wanted = wanted;
  there = grind (
    arith,
    append_assoc,
    slice_get-right (map digits_of s.stem) (divider ∷ map digits_of s.lap ++ rest)
        (length s.stem) 0 (omega (arith, length-map s.stem digits_of)),
  );
  first = grind (arith, no_divider, slice_get-left, length-map, append_assoc);
}

-- the lines that were read so far, each of which spells a letter, have no error
pub no_cause : {split : Bool} (in_lap : Bool) (s : StimulusData) (rest lines : List (List ℕ)) (width : ℕ) →
    lines ≡ spelled in_lap s ++ rest → All (λ letter. length letter ≡ width) s.stem →
    All (λ letter. length letter ≡ width) s.lap → (in_lap ≡ true → split ≡ true) →
    (k : ℕ) (line : List ℕ) (start : ℕ) (cause : StimulusCause) (offset : ℕ) → k < length (spelled in_lap s) →
    IsLetterLine split lines k line → StandsInLine line start width cause offset → ⊥
no_cause false s rest lines width is stem lap wanted k line start cause offset lt letter stands =
    mapped_none s.stem width k start cause offset stem (grind (arith, slice_get-left)) stands
no_cause {split} true s rest lines width is stem lap wanted k line start cause offset lt letter stands =
    which (cases_order k (length s.stem))
  where
    there : slice_get (map digits_of s.stem ++ divider ∷ map digits_of s.lap) k ≡ Some line
    there = grind (arith, slice_get-left)

    which : (k ≡ length s.stem) ⊎ ((k < length s.stem) ⊎ (length s.stem < k)) → ⊥
    which (inl e) = grind (arith, divides_at)
    which (inr (inl less)) = grind (arith, mapped_none, slice_get-left, length-map, there)
    which (inr (inr more)) = (let m = k - suc (length s.stem) in
        mapped_none s.lap width m start cause offset lap (sym (slice_get-right (map digits_of s.stem)
        (divider ∷ map digits_of s.lap) k (suc m) (omega (arith, more, length-map s.stem digits_of))) ∙ there) stands)
