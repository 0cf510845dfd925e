use Rattle.std.proofs.Common.{◌≡◌, ◌+◌, ◌-◌, get_or, arith}
use Rattle.std.proofs.lemmas.Option.{slice_get-get_or, get_or_from_slice_get}
use Rattle.ps_fairness.proofs.WalkLemmas.{GoesOnTo-push}
use Rattle.ps_fairness.proofs.cycles.append_trail.Goals as goal

pub edge_to-requires : goal.edge_to-requires
edge_to-requires g c =
    let trail = c.args.trail.now in
    let place = c.loop-place.place in
    let before = place - 1 in
    let there : before + 1 ≡ place = omega arith in
    c.requires.links before (get_or trail before 0) (get_or trail place 0)
    (slice_get-get_or trail before 0 (omega arith)) (rw there (slice_get-get_or trail place 0 (omega arith)))

pub loop-place-preserved : goal.loop-place-preserved
loop-place-preserved g c = record {
  within = omega arith;
  goes = λ v w first at.
      (let trail = c.args.trail.now in
      let place = c.loop-place.place in
      let came = c.loop-place.invariant.goes v (get_or trail place 0) first (slice_get-get_or trail place 0 (omega arith))
      in
      let same = get_or_from_slice_get trail (place - 1) w 0 at in
      rw c.in_ok-push.ensures.items (GoesOnTo-push c.edge_to.result came c.edge_to.ensures.vertex
      (rw same at c.edge_to.ensures.edge)));
}
