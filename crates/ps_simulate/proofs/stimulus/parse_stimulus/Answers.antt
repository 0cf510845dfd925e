use Rattle.std.proofs.Common.{◌≡◌, ◌∙◌, ◌+◌, ◌-◌, ◌⊎◌, Bool, Some, Vec, true, false, refl, rules}
use Rattle.std.proofs.Common.{sym, ap, take, drop, length, slice_get, arith}
use Rattle.std.specs.Global.{Global}
use Rattle.std.proofs.lemmas.Result.{err_from_is_err_and}
use Rattle.ps_simulate.specs.Stimuli.{StimulusData, letters_of}
use Rattle.ps_simulate.specs.StimulusTexts.{lines_of, spelled, divider}
use Rattle.ps_simulate.proofs.Stimuli.StimulusSteps.{HasRead-letter, HasRead-divider, HasRead-same, IsFirstError-end}
use Rattle.ps_simulate.proofs.Stimuli.StimulusSteps.{IsStimulusAnswer-line, at_line, letters_of-push}
use Rattle.ps_simulate.proofs.Stimuli.StimulusLines.{line_length}
use Rattle.ps_simulate.proofs.stimulus.parse_stimulus.Goals as goal
use Rattle.ps_simulate.proofs.stimulus.parse_stimulus.Goals.{then-split+then-not-in_lap+then-is_divider}
use Rattle.ps_simulate.proofs.stimulus.parse_stimulus.Goals.{else-split+in_ok-letter+then-in_lap+in_ok-push}
use Rattle.ps_simulate.proofs.stimulus.parse_stimulus.Goals.{else-split+in_ok-letter+else-in_lap+in_ok-push-2}

pub returns-then-not-in_lap-2 : goal.returns-then-not-in_lap-2
returns-then-not-in_lap-2 c =
    rw c.at.ensures (IsFirstError-end (HasRead-same c.args.text.now c.args.width c.args.split c.loop-start.in_lap false
    c.loop-start.start _ _ _ _ c.if-not-in_lap-2.true refl refl c.loop-start.invariant) (omega arith) c.if-split-2.true)

pub loop-start-preserved : goal.loop-start-preserved
loop-start-preserved c =
    let text = c.args.text.now in
    let start = c.loop-start.start in
    let end = c.line_end-end.result in
    let line = take (end - start) (drop start text) in
    let stem = letters_of c.loop-start.stem.items in
    let lap = letters_of c.loop-start.lap.items in
    let ends = line_length text start end c.line_end-end.ensures.from c.line_end-end.ensures.within in
    elim c.if-split.branch [
      | then-split+then-not-in_lap+then-is_divider w ↦ HasRead-same text c.args.width c.args.split true
          c.if-split.in_lap (end + 1) stem _ lap _ (sym w.in_lap-is)
          (ap (λ (v : Vec (Vec Bool Global) Global). letters_of v.items) (sym w.stem-is))
          (ap (λ (v : Vec (Vec Bool Global) Global). letters_of v.items) (sym w.lap-is))
          (HasRead-divider (HasRead-same text c.args.width c.args.split c.loop-start.in_lap false start stem stem lap
          lap w.if-not-in_lap.true refl refl c.loop-start.invariant) c.line_end-end.ensures.lines ends
          (w.is_divider.ensures.0 w.if-is_divider.true) w.if-split.true)
      | else-split+in_ok-letter+then-in_lap+in_ok-push w ↦ HasRead-same text c.args.width c.args.split true
          c.if-split.in_lap (end + 1) stem _ _ _ (sym w.if-in_lap.true ∙ sym w.in_lap-is)
          (ap (λ (v : Vec (Vec Bool Global) Global). letters_of v.items) (sym w.stem-is))
          (search (rules, letters_of-push)) (HasRead-letter
          (HasRead-same text c.args.width c.args.split c.loop-start.in_lap true start stem stem lap lap w.if-in_lap.true
          refl refl c.loop-start.invariant) c.line_end-end.ensures.lines ends w.in_ok-letter.letter.items
          w.in_ok-letter.ensures.0 w.in_ok-letter.ensures.1)
      | else-split+in_ok-letter+else-in_lap+in_ok-push-2 w ↦ HasRead-same text c.args.width c.args.split false
          c.if-split.in_lap (end + 1) _ _ lap _ (sym w.if-in_lap.false ∙ sym w.in_lap-is)
          (search (rules, letters_of-push))
          (ap (λ (v : Vec (Vec Bool Global) Global). letters_of v.items) (sym w.lap-is)) (HasRead-letter
          (HasRead-same text c.args.width c.args.split c.loop-start.in_lap false start stem stem lap lap
          w.if-in_lap.false refl refl c.loop-start.invariant) c.line_end-end.ensures.lines ends
          w.in_ok-letter.letter.items w.in_ok-letter.ensures.0 w.in_ok-letter.ensures.1)
    ]

pub returns-in_err-letter : goal.returns-in_err-letter
returns-in_err-letter c =
    let text = c.args.text.now in
    let start = c.loop-start.start in
    let end = c.line_end-end.result in
    let line = take (end - start) (drop start text) in
    let s : StimulusData =
    record { stem = letters_of c.loop-start.stem.items; lap = letters_of c.loop-start.lap.items } in
    let ends = line_length text start end c.line_end-end.ensures.from c.line_end-end.ensures.within in
    let here = at_line c.loop-start.invariant c.line_end-end.ensures.lines ends in
    let plain : (c.loop-start.in_lap ≡ true) ⊎ (¬ (slice_get (lines_of text) (length (spelled c.loop-start.in_lap s)) ≡
    Some divider) ⊎ (c.args.split ≡ false)) = search rules in
    let p = err_from_is_err_and c.from_residual.result c.from_residual.ensures.1 in
    rw (p.1, p.2) (IsStimulusAnswer-line c.loop-start.invariant c.line_end-end.ensures.lines ends c.loop-start-test.true
    c.line_end-end.ensures.within plain c.in_err-letter.field-0.0 c.in_err-letter.ensures)
