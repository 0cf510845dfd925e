use Rattle.std.proofs.Common.{◌<◌, length, vec_len, ℕ, List, Some}
use Rattle.ps_pgsolver.specs.Nodes.{KnowsEach}
use Rattle.std.specs.Option.{option_copied}
use Rattle.ps_text.specs.Parts.{many}
use Rattle.ps_pgsolver.specs.GameTexts.{successors, more_successor}
use Rattle.ps_pgsolver.proofs.ReadGames.GameExits.{Continues}
use Rattle.ps_pgsolver.proofs.reader.successors.Given as goal

abbrev pub invariant-more : goal.invariant-more
invariant-more l =
    (0 < vec_len l.list) × Continues (successors (option_copied l.known))
    (many (more_successor (option_copied l.known)) l.list.items) l.fn.tokens l.tokens
    × ((ids : List ℕ) → KnowsEach ids l.list.items → Continues (successors (Some ids))
    (many (more_successor (Some ids)) l.list.items) l.fn.tokens l.tokens)

abbrev pub decreases-more : goal.decreases-more
decreases-more l = length l.tokens.pieces
