-- The parser of stimuli reads one line after another, and keeps its invariant.
use Rattle.std.proofs.Common.{◌≡◌, ℕ, ◌+◌, ◌<◌, ◌≤◌, ◌⊎◌, inl, inr, Bool, true, false, List, [], ◌∷◌, ◌++◌, map, length}
use Rattle.std.proofs.Common.{rules, drop, refl, sym, ap, ◌∙◌, arith, Some, Err, slice_get, All, length-append}
use Rattle.std.specs.Prelude.{Vec}
use Rattle.std.specs.Global.{Global}
use Rattle.std.proofs.lemmas.List.{length-map, map_push, append_assoc, append-nil, drop_all, take_at}
use Rattle.std.proofs.lemmas.List.Elements.{All-push, All-nil}
use Rattle.std.proofs.lemmas.List.Sums.{sum_by_push}
use Rattle.std.proofs.lemmas.Option.{slice_get_within}
use Rattle.std.proofs.lemmas.Bool.{cases_order}
use Rattle.ps_simulate.specs.declared.fault.StimulusCause.{StimulusCause}
use Rattle.ps_simulate.specs.declared.fault.StimulusCause.TheVariants.{Stimulus}
use Rattle.ps_simulate.specs.Faults.{rank, StimulusFault}
use Rattle.ps_text.specs.declared.faults.Fault.TheVariants.{Text, OutOfMemory}
use Rattle.ps_simulate.specs.Stimuli.{StimulusData, letters_of}
use Rattle.ps_simulate.specs.StimulusTexts.{lines_of, extent, start_of, digits_of, divider, spelled, Divides}
use Rattle.ps_simulate.specs.StimulusTexts.{StandsInLine, StandsInLetter, MissesDivider, IsErrorAt, IsFirstError}
use Rattle.ps_simulate.specs.StimulusTexts.{IsStimulus}
use Rattle.ps_simulate.specs.StimulusTexts.{IsStimulusAnswer}
use Rattle.ps_simulate.specs.Inner.StimulusReading.{HasRead, ReadsLine}
use Rattle.ps_simulate.proofs.Stimuli.StimulusLines.{start_of-later, in_line_from, in_line_within}
use Rattle.ps_simulate.proofs.Stimuli.StimulusLemmas.{slice_get-right, no_divider, divides_at, no_cause}

-- the stimulus with one more letter, either in the stem (read once) or in the lap (read repeatedly)
abbrev pub with_letter : Bool → StimulusData → List Bool → StimulusData
with_letter false s letter = record { stem = s.stem ++ letter ∷ []; lap = s.lap }
with_letter true s letter = record { stem = s.stem; lap = s.lap ++ letter ∷ [] }

spelled-with_letter : (in_lap : Bool) (s : StimulusData) (letter : List Bool) →
    spelled in_lap (with_letter in_lap s letter) ≡ spelled in_lap s ++ digits_of letter ∷ []
spelled-with_letter in_lap s letter = search (rules, map_push, append_assoc)

widths_with : (in_lap : Bool) (s : StimulusData) (letter : List Bool) {width : ℕ} → All (λ l. length l ≡ width) s.stem →
    All (λ l. length l ≡ width) s.lap → length letter ≡ width
    → All (λ l. length l ≡ width) (with_letter in_lap s letter).stem ×
    All (λ l. length l ≡ width) (with_letter in_lap s letter).lap
widths_with false s letter {width} stem lap each = (All-push (λ l. length l ≡ width) s.stem letter stem each, lap)
widths_with true s letter {width} stem lap each = (stem, All-push (λ l. length l ≡ width) s.lap letter lap each)

no_lap_with : (in_lap : Bool) (s : StimulusData) (letter : List Bool) → (in_lap ≡ false → s.lap ≡ []) → in_lap ≡ false →
    (with_letter in_lap s letter).lap ≡ []
no_lap_with in_lap s letter h k = search rules

pub HasRead-start : (text : List ℕ) (width : ℕ) (split : Bool) →
    HasRead text width split false 0 (record { stem = []; lap = [] })
HasRead-start text width split = search (rules, All-nil)

module _ {text : List ℕ} {width : ℕ} {split in_lap : Bool} {start end : ℕ} {s : StimulusData}
    (h : HasRead text width split in_lap start s) {line : List ℕ}
    (next : lines_of (drop start text) ≡ line ∷ lines_of (drop (end + 1) text)) (length_is : start + length line ≡ end)
  where
    behind : lines_of text ≡ spelled in_lap s ++ line ∷ lines_of (drop (end + 1) text)
    behind = h.lines ∙ ap (λ (rest : List (List ℕ)). spelled in_lap s ++ rest) next

    pushed : lines_of text ≡ (spelled in_lap s ++ line ∷ []) ++ lines_of (drop (end + 1) text)
    pushed = behind ∙ sym (append_assoc (spelled in_lap s) (line ∷ []) (lines_of (drop (end + 1) text)))

    end_is : end + 1 ≡ extent (spelled in_lap s ++ line ∷ [])
    end_is = search (rules, sum_by_push)

    -- the parser's invariant is kept when a line that spells a letter is read
    pub HasRead-letter : (letter : List Bool) → line ≡ digits_of letter → length line ≡ width →
        HasRead text width split in_lap (end + 1) (with_letter in_lap s letter)
    HasRead-letter letter is each = grind (
      arith,
      spelled-with_letter,
      widths_with in_lap s letter h.stem_widths h.lap_widths (sym (length-map letter _) ∙ ap length (sym is) ∙ each),
      pushed,
      end_is,
      no_lap_with in_lap s letter h.no_lap,
    )

    -- the current line is the first line of the text that was not read yet
    pub at_line : slice_get (lines_of text) (length (spelled in_lap s)) ≡ Some line
    at_line = ap (λ (ls : List (List ℕ)). slice_get ls (length (spelled in_lap s))) behind ∙ slice_get-right
        (spelled in_lap s) (line ∷ lines_of (drop (end + 1) text)) (length (spelled in_lap s)) 0 (omega arith)

    start_here : start_of (lines_of text) (length (spelled in_lap s)) ≡ start
    start_here = search (rules, behind, take_at)

    -- let the lines before the current line be without errors; if the current line must spell a letter, the line's
    -- first error is the first error of the text
    pub IsFirstError-in_line : start < length text → end ≤ length text →
        ¬ Divides split (lines_of text) (length (spelled in_lap s)) → {cause : StimulusCause} {offset : ℕ} →
        IsFirstError (StandsInLine line start width) cause offset →
        IsFirstError (IsErrorAt text width split) cause offset
    IsFirstError-in_line some within letter {cause} {offset} first = record {
      stands = search (rules, at_line, start_here, first.stands);
      least =
          λ other there stands. elim stands [ inl l ↦ in_letter other there l | inr m ↦ inl (missing other there m) ];
    }
      where
        bound : (offset ≡ start) ⊎ (offset < start + length line)
        bound = in_line_within line start width cause offset first.stands

        missing : (other : StimulusCause) (there : ℕ) → MissesDivider text split other there → offset < there
        missing other there m = grind (arith, bound)

        in_letter : (other : StimulusCause) (there : ℕ) → StandsInLetter text width split other there →
            (offset < there) ⊎ ((offset ≡ there) × (rank cause ≤ rank other))
        in_letter other there l = which (cases_order l.k (length (spelled in_lap s)))
          where
            which : (l.k ≡ length (spelled in_lap s)) ⊎ ((l.k < length (spelled in_lap s)) ⊎
                (length (spelled in_lap s) < l.k)) → (offset < there) ⊎ ((offset ≡ there) × (rank cause ≤ rank other))
            which (inl e) = grind (arith, at_line, start_here)
            which (inr (inl less)) = grind (arith, no_cause, behind)
            which (inr (inr more)) = (let later = start_of-later (lines_of text) (length (spelled in_lap s)) l.k at_line
                more (let w = slice_get_within (lines_of text) l.k l.line l.is_letter.there in omega arith) in
                let from = in_line_from l.line _ width other there l.in_line in
                inl (grind (arith, bound, start_here)))

-- the parser's invariant is kept when the divider is read
pub HasRead-divider : {text : List ℕ} {width : ℕ} {split : Bool} {start end : ℕ} {s : StimulusData} →
    HasRead text width split false start s → {line : List ℕ}
    → lines_of (drop start text) ≡ line ∷ lines_of (drop (end + 1) text) → start + length line ≡ end → line ≡ divider →
    split ≡ true → HasRead text width split true (end + 1) s
HasRead-divider {text} {width} {split} {start} {end} {s} h {line} next length_is is wanted =
    grind (arith, pushed h next length_is, end_is h next length_is)

-- the current line is not the divider in each of three cases: the divider was read before; the line is not `-`; the
-- text needs no divider
pub not_divides : {text : List ℕ} {width : ℕ} {split : Bool} (in_lap : Bool) {start : ℕ} {s : StimulusData} →
    HasRead text width split in_lap start s
    → (in_lap ≡ true) ⊎ (¬ (slice_get (lines_of text) (length (spelled in_lap s)) ≡ Some divider) ⊎ (split ≡ false)) →
    ¬ Divides split (lines_of text) (length (spelled in_lap s))
not_divides {text} {split} true {start} {s} h (inl e) d =
    let at = divides_at s (lines_of (drop start text)) (lines_of text) h.lines (h.wanted refl) in
    grind (arith, length-map, length-append)
not_divides false h (inl e) d = cc
not_divides in_lap h (inr (inl other)) d = other d.there
not_divides in_lap h (inr (inr plain)) d = (let e = d.wanted in cc)

-- ## The end

module _ {text : List ℕ} {width : ℕ} {split in_lap : Bool} {start : ℕ} {s : StimulusData}
    (h : HasRead text width split in_lap start s) (past : length text ≤ start) where
  all_lines : lines_of text ≡ spelled in_lap s
  all_lines = search (rules, drop_all, append-nil)

  pub IsStimulus-end : in_lap ≡ split → IsStimulus text width split s
  IsStimulus-end e = search (rules, all_lines)

pub IsFirstError-end : {text : List ℕ} {width : ℕ} {split : Bool} {start : ℕ} {s : StimulusData} →
    HasRead text width split false start s → length text ≤ start → split ≡ true
    → IsFirstError (IsErrorAt text width split) Stimulus (length text)
IsFirstError-end {text} {width} {split} {start} {s} h past wanted = record {
  stands = inr (record {
    wanted = wanted;
    none =
        λ k there. no_divider s.stem k (ap (λ (ls : List (List ℕ)). slice_get ls k) (sym (all_lines h past)) ∙ there);
    cause_is = refl;
    offset_is = refl;
  });
  least = λ other there stands. elim stands [
    | inl l ↦ absurd (no_cause false s [] (lines_of text) width
        (all_lines h past ∙ sym (append-nil (map digits_of s.stem))) h.stem_widths h.lap_widths h.wanted l.k l.line _
        other there (omega (
          arith,
          slice_get_within (lines_of text) l.k l.line l.is_letter.there,
          ap length (all_lines h past),
        )) l.is_letter l.in_line)
    | inr m ↦ inr (sym m.offset_is, omega arith)
  ];
}

-- ## The values of the code

-- the parser's invariant is kept when its lists of letters are replaced by equal lists
pub HasRead-same : (text : List ℕ) (width : ℕ) (split in_lap in_lap' : Bool) (start : ℕ)
    (stem stem' lap lap' : List (List Bool)) → in_lap ≡ in_lap' → stem ≡ stem' → lap ≡ lap'
    → HasRead text width split in_lap start (record { stem = stem; lap = lap }) →
    HasRead text width split in_lap' start (record { stem = stem'; lap = lap' })
HasRead-same text width split in_lap in_lap' start stem stem' lap lap' same_side same_stem same_lap h = search rules

pub letters_of-push : (letters : List (Vec Bool Global)) (letter : Vec Bool Global) →
    letters_of (letters ++ letter ∷ []) ≡ letters_of letters ++ letter.items ∷ []
letters_of-push letters letter = map_push (λ (l : Vec Bool Global). l.items) letters letter

-- let the lines before the current line be without errors; if the current line must spell a letter, the fault that
-- parsing this line returns is a right answer to the text
pub IsStimulusAnswer-line : {text : List ℕ} {width : ℕ} {split in_lap : Bool} {start end : ℕ} {s : StimulusData} →
    HasRead text width split in_lap start s → {line : List ℕ}
    → lines_of (drop start text) ≡ line ∷ lines_of (drop (end + 1) text) → start + length line ≡ end →
    start < length text → end ≤ length text
    → (in_lap ≡ true) ⊎ (¬ (slice_get (lines_of text) (length (spelled in_lap s)) ≡ Some divider) ⊎ (split ≡ false))
    → (fault : StimulusFault) → ReadsLine line start width (Err fault) → IsStimulusAnswer text width split (Err fault)
IsStimulusAnswer-line {text} {width} {split} {in_lap} {start} {end} {s} h {line} next length_is some within plain
    (Text cause offset) first = search (rules, IsFirstError-in_line, not_divides)
IsStimulusAnswer-line h next length_is some within plain OutOfMemory first = tt
