use Rattle.std.proofs.Common.{arith, rules, List, map, option_map, ap, refl}
use Rattle.std.proofs.lemmas.List.{length-map}
use Rattle.ps_label.specs.Expression.{expression}
use Rattle.ps_text.proofs.ParsedAnswers.Exits.{reads_mapped, reads_then}
use Rattle.ps_hoa.specs.Grammar.Body.{edges, empty_row, with_row}
use Rattle.ps_hoa.specs.Files.{EdgeData}
use Rattle.ps_hoa.specs.Inner.Rows.{body_data}
use Rattle.ps_hoa.specs.Grammar.Header.{header_data}
use Rattle.ps_hoa.specs.Views.{edge_data, row_data}
use Rattle.ps_hoa.proofs.Grammar.StateLaws.{joint_state, joint_state_label, joint_number, joint_name, joint_marks}
use Rattle.ps_hoa.proofs.Reading.HoaExits.{exit, first, behind, under}
use Rattle.ps_hoa.proofs.Reading.StateReading.{edges_serve}
use Rattle.ps_hoa.proofs.Soundness.SoundBodies.{IsRowOf, edges_within}
use Rattle.ps_hoa.specs.Marks.{mark_list}
use Rattle.ps_hoa.proofs.body.row.Goals as goal
use Rattle.ps_hoa.proofs.body.row.Goals.{In_ok-edges}

pub returns-in_err-begin-clause-part : goal.returns-in_err-begin-clause-part
returns-in_err-begin-clause-part c =
    exit _ _ _ _ (search (rules, first, joint_state)) c.in_err-begin.ensures c.from_residual.ensures.1

pub returns-in_err-label-clause-part : goal.returns-in_err-label-clause-part
returns-in_err-label-clause-part c =
    let h = header_data c.args.header.now in
    let b = body_data c.args.rows.now in
    exit _ _ _ _ (behind (joint_state h b) c.in_ok-begin.ensures (first (joint_state_label h b)))
    c.in_err-label.ensures c.from_residual-in_err-label.ensures.1

pub returns-in_err-state-clause-part : goal.returns-in_err-state-clause-part
returns-in_err-state-clause-part c =
    let h = header_data c.args.header.now in
    let b = body_data c.args.rows.now in
    exit _ _ _ _ (behind (joint_state h b) c.in_ok-begin.ensures
    (behind (joint_state_label h b) c.in_ok-label.ensures (first (joint_number h b _))))
    c.in_err-state.ensures.part c.from_residual-in_err-state.ensures.1

pub returns-in_err-marks-clause-part : goal.returns-in_err-marks-clause-part
returns-in_err-marks-clause-part c =
    let h = header_data c.args.header.now in
    let b = body_data c.args.rows.now in
    let l = option_map expression c.in_ok-label.label in
    exit _ _ _ _ (behind (joint_state h b) c.in_ok-begin.ensures (behind (joint_state_label h b) c.in_ok-label.ensures
    (behind (joint_number h b l) c.in_ok-state.ensures.part
    (behind (joint_name h b l c.in_ok-state.state) c.pass_name.ensures
    (first (joint_marks h b l c.in_ok-state.state)))))) c.in_err-marks.ensures c.from_residual-in_err-marks.ensures.1

pub returns-in_err-edges-clause-part : goal.returns-in_err-edges-clause-part
returns-in_err-edges-clause-part c =
    let h = header_data c.args.header.now in
    let b = body_data c.args.rows.now in
    let l = option_map expression c.in_ok-label.label in
    let empty = empty_row c.in_ok-state.state l (mark_list c.in_ok-marks.marks) in
    let same = ap (λ (es : List EdgeData). record empty { edges = es }) (ap (map edge_data) c.no_edges.ensures) in
    exit _ _ _ _ (behind (joint_state h b) c.in_ok-begin.ensures
    (behind (joint_state_label h b) c.in_ok-label.ensures (behind (joint_number h b l) c.in_ok-state.ensures.part
    (behind (joint_name h b l c.in_ok-state.state) c.pass_name.ensures (behind (joint_marks h b l c.in_ok-state.state)
    c.in_ok-marks.ensures (under (with_row b) (edges h b.edges empty))))))) ((edges_serve h c.edges-before.ensures.value
    same _).stops _ c.in_err-edges.ensures) c.from_residual-in_err-edges.ensures.1

pub returns-clause-part : goal.returns-clause-part
returns-clause-part c =
    let h = header_data c.args.header.now in
    let b = body_data c.args.rows.now in
    let l = option_map expression c.in_ok-label.label in
    let empty = empty_row c.in_ok-state.state l (mark_list c.in_ok-marks.marks) in
    let same = ap (λ (es : List EdgeData). record empty { edges = es }) (ap (map edge_data) c.no_edges.ensures) in
    reads_then (joint_state h b) c.in_ok-begin.ensures (reads_then (joint_state_label h b) c.in_ok-label.ensures
    (reads_then (joint_number h b l) c.in_ok-state.ensures.part
    (reads_then (joint_name h b l c.in_ok-state.state) c.pass_name.ensures
    (reads_then (joint_marks h b l c.in_ok-state.state) c.in_ok-marks.ensures (reads_mapped (with_row b)
    ((edges_serve h c.edges-before.ensures.value same _).reads _ _ c.in_ok-edges.ensures))))))

-- the parsed row belongs to the state whose number was parsed, and all edges so far are within the limit on edges
row_of : (c : In_ok-edges) → IsRowOf c.edges-before.result c.in_ok-state.state (row_data c.edges.new.row)
row_of c = edges_within (header_data c.args.header.now) c.edges-before.result c.in_ok-state.state _
    (refl, grind arith) c.in_ok-edges.ensures

pub returns-clause-within : goal.returns-clause-within
returns-clause-within c = let is = row_of c in grind (arith, length-map)

pub returns-clause-new : goal.returns-clause-new
returns-clause-new c = rw (row_of c).0 c.in_ok-state.ensures.new
