use Rattle.std.proofs.Common.{rules, arith, Some}
use Rattle.ps_label.specs.Expression.{expression}
use Rattle.ps_text.proofs.ParsedAnswers.Exits.{reads_mapped, reads_then}
use Rattle.ps_hoa.specs.Grammar.Body.{row_with_edge}
use Rattle.ps_hoa.specs.Grammar.Header.{header_data}
use Rattle.ps_hoa.specs.Views.{row_data}
use Rattle.ps_hoa.proofs.Grammar.BodyLaws.{joint_edge_label, joint_edge_target, joint_edge_marks}
use Rattle.ps_hoa.proofs.Reading.BodyReading.{pushed_edge}
use Rattle.ps_hoa.proofs.Reading.HoaExits.{exit, first, behind, under, value_is}
use Rattle.ps_hoa.proofs.body.edges.labelled_edge.Goals as goal

pub returns-in_err-bracket : goal.returns-in_err-bracket
returns-in_err-bracket c = let h = header_data c.args.header.now in
    exit _ _ _ _ (first (joint_edge_label h c.args.before (row_data c.args.row.now))) c.in_err-bracket.ensures
    c.from_residual.ensures.1

pub returns-in_err-label : goal.returns-in_err-label
returns-in_err-label c =
    let h = header_data c.args.header.now in
    let row = row_data c.args.row.now in
    exit _ _ _ _ (behind (joint_edge_label h c.args.before row) c.in_ok-bracket.ensures
    (first (joint_edge_target h c.args.before row))) c.in_err-label.ensures c.from_residual-in_err-label.ensures.1

pub returns-in_err-target : goal.returns-in_err-target
returns-in_err-target c =
    let h = header_data c.args.header.now in
    let row = row_data c.args.row.now in
    exit _ _ _ _ (behind (joint_edge_label h c.args.before row) c.in_ok-bracket.ensures (grind (
      arith,
      behind (joint_edge_target h c.args.before row) c.in_ok-label.ensures (first (joint_edge_marks h c.args.before row
          (Some (expression c.in_ok-label.label)))),
    ))) c.in_err-target.ensures c.from_residual-in_err-target.ensures.1

pub returns-in_err-marks : goal.returns-in_err-marks
returns-in_err-marks c =
    let h = header_data c.args.header.now in
    let row = row_data c.args.row.now in
    let label = Some (expression c.in_ok-label.label) in
    exit _ _ _ _ (behind (joint_edge_label h c.args.before row) c.in_ok-bracket.ensures (behind
    (joint_edge_target h c.args.before row) c.in_ok-label.ensures (behind (joint_edge_marks h c.args.before row label)
    c.in_ok-target.ensures (search (rules, under))))) c.in_err-marks.ensures c.from_residual-in_err-marks.ensures.1

pub returns : goal.returns
returns c =
    let h = header_data c.args.header.now in
    let row = row_data c.args.row.now in
    let label = Some (expression c.in_ok-label.label) in
    value_is (grind (arith, pushed_edge c.args.row.now.edges.items c.push.new.self.items _ c.in_ok-push.ensures.items))
    (reads_then (joint_edge_label h c.args.before row) c.in_ok-bracket.ensures (reads_then (joint_edge_target h
    c.args.before row) c.in_ok-label.ensures (reads_then (joint_edge_marks h c.args.before row label)
    c.in_ok-target.ensures (reads_mapped (row_with_edge row label c.in_ok-target.target) c.in_ok-marks.ensures))))
