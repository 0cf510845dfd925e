use Rattle.std.proofs.Common.{true, replicate, arith}
use Rattle.ps_game.proofs.StoredGames.WordSets.{AreWords, full_part, full_whole}
use Rattle.ps_game.proofs.regions.Region.full.Goals as goal
use Rattle.ps_game.proofs.regions.Region.full.Goals.{Joined-rest-gt0, then-rest-gt0, else-rest-gt0}

full : (c : Joined-rest-gt0) → AreWords c.args.places c.if-rest-gt0.words.items (replicate c.args.places true)
full c =
    let n = c.div_ceil.result in
    let ones = c.in_ok-words.ensures.items_if_clones_equal (λ y e. e) in
    let few = c.ranges.places.fits in
    elim c.if-rest-gt0.branch [
      | then-rest-gt0 w ↦ grind (arith, full_part)
      | else-rest-gt0 w ↦ rw (w.words-is, ones)
          (full_whole c.args.places n few (omega arith) (omega (arith, c.div_ceil.ensures)))
    ]

pub invariant_of-result : goal.invariant_of-result
invariant_of-result c = (full c).packed

pub returns : goal.returns
returns c = (full c).are
