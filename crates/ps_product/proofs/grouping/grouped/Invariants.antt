use Rattle.std.proofs.Common.{take}
use Rattle.ps_diagram.specs.Table.{IsNode, Keeps}
use Rattle.ps_product.specs.Groups.{IsGroupedBy}
use Rattle.ps_product.proofs.grouping.grouped.Given as goal

abbrev pub invariant-loop-place : goal.invariant-loop-place
invariant-loop-place l = record {
  keeps : Keeps l.fn.store l.store;
  held : IsNode l.store l.made;
  grouped : IsGroupedBy l.fn.store l.store l.fn.node l.made (take l.place l.truths);
}
