use Rattle.ps_diagram.specs.Table.{Keeps}
use Rattle.ps_brief.specs.Inner.Parts.{ArePaired}
use Rattle.ps_brief.proofs.parts.paired_nodes.Given as goal

abbrev pub invariant-loop-place : goal.invariant-loop-place
invariant-loop-place l = record {
  keeps : Keeps l.fn.store l.store;
  paired : ArePaired l.plan l.store l.reached l.memories.kept.items l.pairs.keys l.nodes.items l.place-index;
}
