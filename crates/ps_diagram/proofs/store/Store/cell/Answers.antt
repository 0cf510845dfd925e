use Rattle.std.proofs.Common.{rules}
use Rattle.std.proofs.lemmas.List.{get_or_default}
use Rattle.ps_diagram.proofs.NodeTables.Cells.{part_of}
use Rattle.ps_diagram.proofs.store.Store.cell.Goals as goal

pub returns-clause-part : goal.returns-clause-part
returns-clause-part c = search (rules, get_or_default, part_of)
