use Rattle.std.proofs.Common.{◌∙◌, arith}
use Rattle.std.proofs.lemmas.List.{get_or_default}
use Rattle.ps_game.specs.Games.{successors_of}
use Rattle.ps_verify.proofs.readings.number_of.Goals as goal

pub unreachable-requires : goal.unreachable-requires
unreachable-requires c =
    let at = c.requires.1 in
    c.loop-number.invariant at.0 (omega (arith, at.1))
    (get_or_default (successors_of c.args.game.now c.args.vertex) at.0 0 c.args.next at.1 ∙ at.2)
