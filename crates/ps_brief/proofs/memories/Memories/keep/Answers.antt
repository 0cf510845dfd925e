use Rattle.ps_machine.proofs.Machines.MemorySteps.{keeps_known}
use Rattle.ps_brief.proofs.memories.Memories.keep.Goals as goal

pub returns-else-branch : goal.returns-else-branch
returns-else-branch c = keeps_known c.in_ok-insert.ensures.added c.if-branch.false c.in_ok-insert.ensures.keys
