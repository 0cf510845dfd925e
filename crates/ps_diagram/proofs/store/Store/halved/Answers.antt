use Rattle.std.proofs.Common.{rules}
use Rattle.ps_diagram.proofs.NodeTables.KnownLemmas.{keeps_trans}
use Rattle.ps_diagram.proofs.NodeTables.MadeDiagrams.{fails}
use Rattle.ps_diagram.proofs.store.Store.halved.Goals as goal

pub returns-in_err-halve : goal.returns-in_err-halve
returns-in_err-halve c = fails (keeps_trans c.loop-height.invariant.keeps c.halve.ensures.keeps) (search rules)
