use Rattle.std.proofs.Common.{◌+◌}
use Rattle.ps_diagram.specs.Inner.Rows.{IsRow, LeadsOn}
use Rattle.ps_diagram.specs.Table.{Keeps}
use Rattle.ps_diagram.proofs.store.Store.halved.Given as goal

abbrev pub invariant-loop-height : goal.invariant-loop-height
invariant-loop-height l = record {
  keeps : Keeps l.fn.self l.self;
  row : IsRow l.self (l.first + l.height) l.none l.nodes.items;
  leads : LeadsOn l.fn.self l.self l.first l.none l.depth l.fn.nodes.items l.height l.nodes.items;
}
