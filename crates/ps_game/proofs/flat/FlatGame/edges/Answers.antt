use Rattle.std.proofs.Common.{◌∙◌}
use Rattle.ps_game.proofs.StoredGames.FlatArrays.{edges_count}
use Rattle.ps_game.proofs.flat.FlatGame.edges.Goals as goal

pub returns : goal.returns
returns g c = c.len.ensures ∙ edges_count c.self.invariant.tell c.self.view_is
