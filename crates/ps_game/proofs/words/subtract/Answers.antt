use Rattle.std.proofs.Common.{◌*◌, ◌∙◌, map, ap, arith}
use Rattle.std.specs.Int.{bit_not, w64}
use Rattle.std.specs.Simd.Lanes.{chunk}
use Rattle.std.proofs.lemmas.List.{get_or-map, length-map}
use Rattle.std.proofs.lemmas.Simd.{get_or-chunk, length-chunk}
use Rattle.ps_game.proofs.StoredGames.Groups.{group_combined}
use Rattle.ps_game.proofs.words.subtract.Goals as goal

pub loop-group-preserved : goal.loop-group-preserved
loop-group-preserved c =
    let start = c.loop-group.group * 8 in
    let loaded = chunk start 8 c.args.others.now in
    let long = length-chunk start 8 c.args.others.now (omega arith) in
    group_combined (map (bit_not w64) loaded) c.loop-group.group c.loop-group.invariant
    (omega (arith, c.loop-group.auto.words)) (length-map loaded (bit_not w64) ∙ long)
    (λ j less. get_or-map (bit_not w64) loaded j 0 0 (omega (arith, long))
    ∙ ap (bit_not w64) (get_or-chunk start 8 c.args.others.now j 0 less))
