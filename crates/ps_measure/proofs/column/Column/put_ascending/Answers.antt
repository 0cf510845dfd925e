use Rattle.std.proofs.Common.{arith, refl, sym, ◌∙◌}
use Rattle.ps_measure.proofs.CountRows.CountsPlaced.{put_none, put_skip, put_one, put_each, none_later}
use Rattle.ps_measure.proofs.column.Column.put_ascending.Goals as goal
use Rattle.ps_measure.proofs.column.Column.put_ascending.Goals.{then-count-gt0+in_ok-put, else-count-gt0}

pub loop-vertex-init : goal.loop-vertex-init
loop-vertex-init c = put_none (λ v. c.requires.blank.none v c.args.place (omega arith))

pub put-requires-clause-place : goal.put-requires-clause-place
put-requires-clause-place c =
    let vertex = c.loop-vertex.vertex in
    omega (arith, c.requires.blank.wide vertex (omega arith), c.loop-vertex.invariant.wide vertex)

pub put-requires-clause-later : goal.put-requires-clause-later
put-requires-clause-later c =
    none_later c.loop-vertex.invariant refl (λ v same. sym same) (λ j v one other. one ∙ sym other) c.requires.blank.none

pub loop-vertex-preserved : goal.loop-vertex-preserved
loop-vertex-preserved c =
    elim c.if-count-gt0.branch [
      | then-count-gt0+in_ok-put w ↦ rw (w.table-is, w.raised-is)
          (put_one c.loop-vertex.invariant refl (λ v same. sym same) (λ j v one other. one ∙ sym other) (omega arith)
          (rw c.count-count.ensures at w.if-count-gt0.true) (rw c.count-count.ensures at w.in_ok-put.ensures))
      | else-count-gt0 w ↦ rw (w.table-is, w.raised-is)
          (put_skip c.loop-vertex.invariant refl (λ v same. sym same) (λ j v one other. one ∙ sym other)
          (omega (arith, w.if-count-gt0.false, c.count-count.ensures)))
    ]

pub returns : goal.returns
returns c =
    let both = put_each c.args.self.now.components c.args.self.now.values.items
    (omega (arith, c.loop-vertex-test.false, c.len-vertex-end.ensures, c.requires.each)) c.loop-vertex.invariant in
    record { column = both.0; raised = both.1 }
