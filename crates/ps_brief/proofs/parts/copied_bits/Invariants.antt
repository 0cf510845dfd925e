use Rattle.ps_diagram.specs.Table.{Keeps}
use Rattle.ps_brief.specs.Inner.Parts.{AreCopiedUpTo}
use Rattle.ps_brief.proofs.parts.copied_bits.Given as goal

abbrev pub invariant-loop-place : goal.invariant-loop-place
invariant-loop-place l = record {
  keeps : Keeps l.fn.own l.own;
  copied : AreCopiedUpTo l.plan l.store l.own l.reached l.memories.kept.items l.all.items l.place-index;
}
