use Rattle.std.proofs.Common.{arith, ◌≡◌, ◌<◌, List, ℕ, length, get_or, ap, Some}
use Rattle.std.specs.Prelude.{slice_get}
use Rattle.std.proofs.lemmas.Option.{slice_get-get_or}
use Rattle.ps_measure.proofs.CountRows.CountsPlaced.{put_none, put_skip, put_one, put_all, item_within, none_later}
use Rattle.ps_measure.proofs.column.Column.put_visited.Goals as goal
use Rattle.ps_measure.proofs.column.Column.put_visited.Goals.{then-count-gt0+in_ok-put, else-count-gt0}

pub loop-vertex-init : goal.loop-vertex-init
loop-vertex-init c = put_none (λ v. c.requires.blank.none v c.args.place (omega arith))

-- the vertex that the code reads at an index of `order` is the entry of `order` at this index
the_vertex : (order items : List ℕ) (i : ℕ) → items ≡ order → i < length items →
    slice_get order i ≡ Some (get_or items i 0)
the_vertex order items i same within = rw (← same) (slice_get-get_or items i 0 within)

-- a list has one item at an index
same_one : (order : List ℕ) (i u v : ℕ) → slice_get order i ≡ Some u → slice_get order i ≡ Some v → v ≡ u
same_one order i u v at other = cc

pub count-count-requires : goal.count-count-requires
count-count-requires c = item_within c.requires.components.1 c.loop-vertex.vertex-index _ (grind (arith, the_vertex))

pub put-requires-clause-vertex : goal.put-requires-clause-vertex
put-requires-clause-vertex c =
    let within = item_within c.requires.components.1 c.loop-vertex.vertex-index _
    (the_vertex _ c.order-vertex-items.result.now _ c.order-vertex-items.ensures c.loop-vertex-test.true) in
    omega (arith, within, c.requires.each, c.loop-vertex.invariant.each)

pub put-requires-clause-place : goal.put-requires-clause-place
put-requires-clause-place c =
    let vertex = get_or c.order-vertex-items.result.now c.loop-vertex.vertex-index 0 in
    let within = item_within c.requires.components.1 c.loop-vertex.vertex-index vertex (grind (arith, the_vertex)) in
    omega (
      arith,
      c.requires.blank.wide vertex (omega (arith, within, c.requires.each)),
      c.loop-vertex.invariant.wide vertex,
    )

pub put-requires-clause-later : goal.put-requires-clause-later
put-requires-clause-later c =
    let i = c.loop-vertex.vertex-index in
    let at = the_vertex c.args.self.now.components.order c.order-vertex-items.result.now i c.order-vertex-items.ensures
    c.loop-vertex-test.true in
    none_later c.loop-vertex.invariant at (λ v other. same_one c.args.self.now.components.order i _ v at other)
    (λ j v one other. c.requires.components.1.once j i v one other) c.requires.blank.none

pub loop-vertex-preserved : goal.loop-vertex-preserved
loop-vertex-preserved c =
    let order = c.args.self.now.components.order in
    let i = c.loop-vertex.vertex-index in
    let at = the_vertex order c.order-vertex-items.result.now i c.order-vertex-items.ensures c.loop-vertex-test.true in
    let once = λ (j v : ℕ) (one : slice_get order j ≡ Some v) (other : slice_get order i ≡ Some v).
    c.requires.components.1.once j i v one other in
    let only = λ (v : ℕ) (other : slice_get order i ≡ Some v). same_one order i _ v at other in
    elim c.if-count-gt0.branch [
      | then-count-gt0+in_ok-put w ↦
          let within = item_within c.requires.components.1 i _ at in
          rw (w.table-is, w.raised-is) (put_one c.loop-vertex.invariant at only once (omega (arith, within, c.requires.each))
          (rw c.count-count.ensures at w.if-count-gt0.true) (rw c.count-count.ensures at w.in_ok-put.ensures))
      | else-count-gt0 w ↦ rw (w.table-is, w.raised-is) (put_skip c.loop-vertex.invariant at only once
          (omega (arith, w.if-count-gt0.false, c.count-count.ensures)))
    ]

pub returns : goal.returns
returns c =
    let long = ap (λ (list : List ℕ). length list) c.order-vertex-items.ensures in
    grind (
      arith,
      put_all c.requires.components.1 c.args.self.now.values.items
          (omega (arith, c.loop-vertex-test.false, long)) c.loop-vertex.invariant,
    )
