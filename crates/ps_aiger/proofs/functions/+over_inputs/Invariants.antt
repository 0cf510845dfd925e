use Rattle.ps_aiger.proofs.functions.+over_inputs.Given as goal

abbrev pub decreases-over_inputs : goal.decreases-over_inputs
decreases-over_inputs l = l.node
