use Rattle.std.proofs.Common.{rules}
use Rattle.ps_pgsolver.proofs.ReadGames.KeptLemmas.{AreKept-none, nodes_kept-none}
use Rattle.ps_pgsolver.proofs.node.Nodes.new.Goals as goal

pub invariant_of-result : goal.invariant_of-result
invariant_of-result c = search (rules, AreKept-none)

pub returns : goal.returns
returns c = nodes_kept-none _ _ c.new-2.ensures
