use Rattle.std.proofs.Common.{◌∙◌}
use Rattle.ps_pgsolver.proofs.ReadGames.KeptLemmas.{known_are}
use Rattle.ps_pgsolver.proofs.node.Nodes.know_successors.Goals as goal

pub returns : goal.returns
returns c = c.know_successors.ensures ∙ known_are _ _ _ c.self.invariant _ c.self.view_is
