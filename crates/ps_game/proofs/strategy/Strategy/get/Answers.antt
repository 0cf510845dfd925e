use Rattle.std.proofs.Common.{◌∙◌, Some, sym, ap, rules}
use Rattle.std.proofs.lemmas.Grind.{get_or_default_zero}
use Rattle.ps_game.proofs.StoredGames.MoveLists.{length-moves_of, move_read}
use Rattle.ps_game.proofs.strategy.Strategy.get.Goals as goal

pub contains-requires : goal.contains-requires
contains-requires c = search (rules, length-moves_of)

pub returns-then-contains : goal.returns-then-contains
returns-then-contains c =
    let s = c.self.inside in
    ap Some (search (rules, get_or_default_zero, length-moves_of, c.index.ensures, c.requires))
    ∙ sym (move_read s.chosen s.moves.items c.self.view_is c.requires (sym c.contains.ensures ∙ c.if-contains.true))

pub returns-else-contains : goal.returns-else-contains
returns-else-contains c = sym (move_read c.self.inside.chosen c.self.inside.moves.items c.self.view_is c.requires
    (sym c.contains.ensures ∙ c.if-contains.false))
