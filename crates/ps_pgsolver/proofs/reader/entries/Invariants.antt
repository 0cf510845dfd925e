use Rattle.std.proofs.Common.{length, ℕ, List, Some}
use Rattle.ps_pgsolver.specs.Nodes.{KnowsAll}
use Rattle.std.specs.Option.{option_copied}
use Rattle.ps_text.specs.Parts.{many}
use Rattle.ps_pgsolver.specs.GameTexts.{entries, entry}
use Rattle.ps_pgsolver.proofs.ReadGames.GameExits.{Continues}
use Rattle.ps_pgsolver.proofs.reader.entries.Given as goal

abbrev pub invariant-more : goal.invariant-more
invariant-more l =
    Continues (entries (option_copied l.known)) (many (entry (option_copied l.known)) l.nodes) l.fn.tokens l.tokens
    × ((ids : List ℕ) → KnowsAll ids l.nodes → Continues (entries (Some ids)) (many (entry (Some ids)) l.nodes)
    l.fn.tokens l.tokens)

abbrev pub decreases-more : goal.decreases-more
decreases-more l = length l.tokens.pieces
