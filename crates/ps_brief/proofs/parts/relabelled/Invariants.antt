use Rattle.ps_diagram.specs.Table.{Keeps}
use Rattle.ps_brief.specs.Inner.Parts.{AreRelabelled}
use Rattle.ps_brief.proofs.parts.relabelled.Given as goal

abbrev pub invariant-loop-node : goal.invariant-loop-node
invariant-loop-node l = record {
  keeps : Keeps l.fn.own l.own;
  made : AreRelabelled l.store l.own l.values l.nodes l.made.items l.node-index;
}
