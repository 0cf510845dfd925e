use Rattle.std.proofs.Common.{rules}
use Rattle.ps_diagram.proofs.NodeTables.Seeing.{sees}
use Rattle.ps_diagram.proofs.store.Store.view.Goals as goal

pub returns : goal.returns
returns c = search (rules, sees)
