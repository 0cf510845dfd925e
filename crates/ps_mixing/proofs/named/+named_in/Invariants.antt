use Rattle.ps_mixing.proofs.named.+named_in.Given as goal

abbrev pub decreases-named_in : goal.decreases-named_in
decreases-named_in l = goal.size-named_in l
