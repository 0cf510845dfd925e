use Rattle.std.proofs.Common.{◌≡◌, ◌-◌, take, drop, length, arith}
use Rattle.std.proofs.lemmas.Result.{err_from_is_err_and}
use Rattle.std.proofs.lemmas.List.{length-map}
use Rattle.ps_simulate.proofs.LapsOfRuns.BitLists.{letters_in-push, whole-push, IsLettersAnswer-line}
use Rattle.ps_simulate.proofs.Stimuli.StimulusSteps.{HasRead-letter}
use Rattle.ps_simulate.proofs.Stimuli.StimulusLines.{line_length}
use Rattle.ps_simulate.proofs.letters.parse_letters.Goals as goal

pub returns-in_err-letter : goal.returns-in_err-letter
returns-in_err-letter c =
    let text = c.args.text.now in
    let start = c.loop-start.start in
    let end = c.line_end-end.result in
    let ends = line_length text start end c.line_end-end.ensures.from c.line_end-end.ensures.within in
    let p = err_from_is_err_and c.from_residual.result c.from_residual.ensures.1 in
    rw (p.1, p.2) (IsLettersAnswer-line c.loop-start.invariant.read c.line_end-end.ensures.lines ends
    c.loop-start-test.true c.line_end-end.ensures.within c.in_err-letter.field-0.0 c.in_err-letter.ensures)

pub loop-start-preserved : goal.loop-start-preserved
loop-start-preserved c =
    let text = c.args.text.now in
    let start = c.loop-start.start in
    let end = c.line_end-end.result in
    let width = c.args.width in
    let count = c.loop-start.count in
    let bits = c.loop-start.bits.items in
    let letter = c.in_ok-letter.letter.items in
    let line = take (end - start) (drop start text) in
    let ends = line_length text start end c.line_end-end.ensures.from c.line_end-end.ensures.within in
    let fits : length letter ≡ width = grind (arith, length-map) in
    grind (
      arith,
      letters_in-push count bits letter c.loop-start.invariant.whole fits,
      HasRead-letter c.loop-start.invariant.read c.line_end-end.ensures.lines ends letter c.in_ok-letter.ensures.0
          c.in_ok-letter.ensures.1,
      whole-push count bits letter c.loop-start.invariant.whole fits,
    )
