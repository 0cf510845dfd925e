use Rattle.ps_game.proofs.StoredGames.DistinctByStamps.{IsKept}
use Rattle.ps_game.proofs.builder.keep_first_places.Given as goal

abbrev pub invariant-loop-place : goal.invariant-loop-place
invariant-loop-place l = IsKept l.fn.numbers l.numbers l.seen l.stamp l.place l.kept
