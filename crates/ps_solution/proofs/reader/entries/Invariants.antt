use Rattle.std.proofs.Common.{◌≡◌, length}
use Rattle.ps_solution.proofs.EntryLoop.{Goes}
use Rattle.ps_solution.proofs.reader.entries.Given as goal

-- parsing the remaining entries of the text gives the same result as parsing all entries from the start
abbrev pub invariant-more : goal.invariant-more
invariant-more l = Goes l.ids l.fn.tokens l.solved l.tokens × (length l.solved.named ≡ length l.ids)

abbrev pub decreases-more : goal.decreases-more
decreases-more l = length l.tokens.pieces
