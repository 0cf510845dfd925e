use Rattle.std.proofs.Common.{◌*◌, arith}
use Rattle.std.specs.Simd.Lanes.{chunk}
use Rattle.std.proofs.lemmas.Simd.{get_or-chunk, length-chunk}
use Rattle.ps_game.proofs.StoredGames.Groups.{group_combined}
use Rattle.ps_game.proofs.words.unite.Goals as goal

pub loop-group-preserved : goal.loop-group-preserved
loop-group-preserved c =
    let start = c.loop-group.group * 8 in
    group_combined (chunk start 8 c.args.others.now) c.loop-group.group c.loop-group.invariant
    (omega (arith, c.loop-group.auto.words)) (length-chunk start 8 c.args.others.now (omega arith))
    (λ j less. get_or-chunk start 8 c.args.others.now j 0 less)
