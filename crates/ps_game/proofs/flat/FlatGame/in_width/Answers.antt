use Rattle.std.proofs.Common.{arith, rules}
use Rattle.ps_game.proofs.StoredGames.FlatArrays.{offsets_fit, successors_fit}
use Rattle.ps_game.proofs.flat.FlatGame.in_width.Goals as goal

pub in_width-requires : goal.in_width-requires
in_width-requires g c = search (rules, offsets_fit)

pub in_width-requires-2 : goal.in_width-requires-2
in_width-requires-2 g c =
    let s = c.self.inside in
    successors_fit c.self.invariant.tell c.self.view_is c.self.invariant.is_game c.requires
    (omega (arith, s.owners.ok.0, s.owners.small))

pub invariant_of-result : goal.invariant_of-result
invariant_of-result g c = search rules

pub returns : goal.returns
returns g c = search rules
