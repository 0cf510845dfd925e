use Rattle.ps_measure.proofs.RaisedCounts.CountsOrCycle.{held_ranks, ranks_or_cycle}
use Rattle.ps_measure.proofs.laws.counts_are_there.Goals as goal

pub returns : goal.returns
returns c = record { either = ranks_or_cycle; held = held_ranks }
