use Rattle.std.proofs.Common.{◌≢◌, ◌<◌, ℕ, get_or}
use Rattle.ps_game.specs.Games.{successors_of}
use Rattle.ps_verify.proofs.readings.number_of.Given as goal

abbrev pub invariant-loop-number : goal.invariant-loop-number
invariant-loop-number l = (k : ℕ) → k < l.number → get_or (successors_of l.game l.vertex) k 0 ≢ l.next
