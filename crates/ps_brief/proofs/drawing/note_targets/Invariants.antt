use Rattle.ps_brief.specs.Listings.{listed_keys}
use Rattle.ps_brief.proofs.DraftedMoves.NotedLeaves.{NotesFirst}
use Rattle.ps_brief.proofs.drawing.note_targets.Given as goal

abbrev pub invariant-loop-target : goal.invariant-loop-target
invariant-loop-target l = NotesFirst (listed_keys l.listing) l.target-items l.target-index l.fn.leaves.items
    l.leaves.items
