use Rattle.ps_brief.specs.Inner.Parts.{AreMemoriesFor}
use Rattle.ps_brief.proofs.memories.Memories.values.Given as goal

abbrev pub invariant-loop-leaf : goal.invariant-loop-leaf
invariant-loop-leaf l = AreMemoriesFor l.plan l.self.kept.items l.pairs l.values.items l.leaf-index
