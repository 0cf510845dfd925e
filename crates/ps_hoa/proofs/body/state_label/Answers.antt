use Rattle.std.proofs.Common.{arith}
use Rattle.std.proofs.lemmas.Bool.{iff_false}
use Rattle.ps_text.proofs.ParsedAnswers.Exits.{reads_give, reads_then}
use Rattle.ps_hoa.specs.Grammar.Body.{is_left_bracket}
use Rattle.ps_hoa.specs.Grammar.Header.{header_data}
use Rattle.ps_hoa.proofs.Grammar.BodyLaws.{joint_bracket}
use Rattle.ps_hoa.proofs.Reading.HoaExits.{exit, first, behind, here, instead}
use Rattle.ps_hoa.proofs.Reading.ExpectReading.{tests_left_bracket}
use Rattle.ps_hoa.proofs.Reading.StateReading.{label_serves, no_label_serves}
use Rattle.ps_hoa.proofs.body.state_label.Goals as goal

pub returns-then-not-is_at : goal.returns-then-not-is_at
returns-then-not-is_at c =
    (no_label_serves (header_data c.args.header.now) _ (grind (arith, iff_false))).reads _ _ (reads_give _ _)

pub returns-in_err-expect : goal.returns-in_err-expect
returns-in_err-expect c = let h = header_data c.args.header.now in
    exit _ _ _ _ (instead (label_serves h _ (c.is_at.ensures.0 c.if-not-is_at.false)) (first (joint_bracket h)))
    (c.in_err-expect.ensures is_left_bracket tests_left_bracket.is) c.from_residual.ensures.1

pub returns-in_err-label : goal.returns-in_err-label
returns-in_err-label c = let h = header_data c.args.header.now in
    exit _ _ _ _ (instead (label_serves h _ (c.is_at.ensures.0 c.if-not-is_at.false)) (behind (joint_bracket h)
    (c.in_ok-expect.ensures is_left_bracket tests_left_bracket.is) here)) c.in_err-label.ensures
    c.from_residual-in_err-label.ensures.1

pub returns : goal.returns
returns c = let h = header_data c.args.header.now in
    (label_serves h _ (c.is_at.ensures.0 c.if-not-is_at.false)).reads _ _ (reads_then (joint_bracket h)
    (c.in_ok-expect.ensures is_left_bracket tests_left_bracket.is) c.in_ok-label.ensures)
