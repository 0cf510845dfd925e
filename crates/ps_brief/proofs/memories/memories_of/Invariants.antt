use Rattle.ps_machine.proofs.Machines.MemorySteps.{AreMemoriesBelow}
use Rattle.ps_brief.specs.Listings.{listed_keys}
use Rattle.ps_brief.proofs.memories.memories_of.Given as goal

abbrev pub invariant-loop-place : goal.invariant-loop-place
invariant-loop-place l = AreMemoriesBelow l.plan.moves_first (listed_keys l.plan.listing.now) l.reached.places.keys
    l.memories.kept.items l.memories.anchors.keys l.place-counter
