use Rattle.std.proofs.Common.{rules, arith, None}
use Rattle.ps_text.proofs.ParsedAnswers.Exits.{reads_mapped, reads_then}
use Rattle.ps_hoa.specs.Grammar.Body.{row_with_edge}
use Rattle.ps_hoa.specs.Grammar.Header.{header_data}
use Rattle.ps_hoa.specs.Views.{row_data}
use Rattle.ps_hoa.proofs.Grammar.BodyLaws.{joint_plain_marks}
use Rattle.ps_hoa.proofs.Reading.BodyReading.{pushed_edge}
use Rattle.ps_hoa.proofs.Reading.HoaExits.{exit, first, behind, under, value_is}
use Rattle.ps_hoa.proofs.body.edges.plain_edge.Goals as goal

pub returns-in_err-target : goal.returns-in_err-target
returns-in_err-target c =
    exit _ _ _ _ (search (rules, first, joint_plain_marks)) c.in_err-target.ensures c.from_residual.ensures.1

pub returns-in_err-marks : goal.returns-in_err-marks
returns-in_err-marks c =
    let h = header_data c.args.header.now in
    let row = row_data c.args.row.now in
    exit _ _ _ _ (behind (joint_plain_marks h c.args.before row) c.in_ok-target.ensures (search (rules, under)))
    c.in_err-marks.ensures c.from_residual-in_err-marks.ensures.1

pub returns : goal.returns
returns c =
    let row = row_data c.args.row.now in
    let es = c.args.row.now.edges.items in
    value_is (grind (arith, pushed_edge es c.push.new.self.items _ c.in_ok-push.ensures.items))
    (reads_then (joint_plain_marks (header_data c.args.header.now) c.args.before row) c.in_ok-target.ensures
    (reads_mapped (row_with_edge row None c.in_ok-target.target) c.in_ok-marks.ensures))
