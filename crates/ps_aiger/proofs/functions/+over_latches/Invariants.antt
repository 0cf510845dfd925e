use Rattle.ps_aiger.proofs.functions.+over_latches.Given as goal

abbrev pub decreases-over_latches : goal.decreases-over_latches
decreases-over_latches l = l.latches
