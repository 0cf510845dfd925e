use Rattle.std.proofs.Common.{◌+◌}
use Rattle.ps_diagram.specs.Table.{Keeps}
use Rattle.ps_diagram.proofs.TreesFromData.Halving.{AreTests}
use Rattle.ps_diagram.proofs.store.Store.halve.Given as goal

abbrev pub invariant-loop-place : goal.invariant-loop-place
invariant-loop-place l = record {
  keeps : Keeps l.fn.self l.self;
  tests : AreTests l.fn.self l.self (l.first + l.height) l.none l.half l.fn.nodes.items l.place l.nodes.items;
}
