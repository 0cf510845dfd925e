use Rattle.std.proofs.Common.{◌<◌, length, get_or, refl, arith}
use Rattle.ps_game.proofs.StoredGames.DistinctByStamps.{keep, leave}
use Rattle.ps_game.proofs.builder.keep_first_places.Goals as goal
use Rattle.ps_game.proofs.builder.keep_first_places.Goals.{then-seen-number, else-seen-number}

pub loop-place-preserved : goal.loop-place-preserved
loop-place-preserved c =
    let so_far = c.loop-place.invariant in
    let there = so_far.back c.loop-place.place (omega arith) in
    let first = c.requires.known c.loop-place.place 0 c.loop-place-test.true in
    let known : get_or c.loop-place.numbers c.loop-place.place 0 < length c.loop-place.seen = omega arith in
    elim c.if-seen-number.branch [
      | then-seen-number w ↦ rw (w.kept-is, w.seen-is, w.numbers-is)
          (keep so_far (omega arith) (omega arith) refl known w.if-seen-number.true)
      | else-seen-number w ↦ rw (w.kept-is, w.seen-is, w.numbers-is)
          (leave so_far (omega arith) (omega arith) refl known w.if-seen-number.false)
    ]
