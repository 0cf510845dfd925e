use Rattle.ps_pgsolver.proofs.ReadGames.KeptLemmas.{ids_are}
use Rattle.ps_pgsolver.proofs.node.Nodes.ids.Goals as goal

pub returns-clause-ids : goal.returns-clause-ids
returns-clause-ids c = ids_are _ _ _ c.self.invariant _ c.self.view_is
