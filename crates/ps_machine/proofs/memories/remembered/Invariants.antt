use Rattle.ps_machine.proofs.Machines.MemorySteps.{AreMemoriesBelow}
use Rattle.ps_machine.proofs.memories.remembered.Given as goal

abbrev pub invariant-loop-vertex : goal.invariant-loop-vertex
invariant-loop-vertex l =
    AreMemoriesBelow l.moves_first l.keys l.used.list.items l.memories.kept.items l.memories.anchors.keys l.vertex
