use Rattle.ps_game.proofs.StoredGames.DistinctByStamps.{IsDropped}
use Rattle.ps_game.proofs.builder.drop_repeats.Given as goal

abbrev pub invariant-loop-number : goal.invariant-loop-number
invariant-loop-number l = IsDropped l.fn.vertices l.vertices l.seen l.number
