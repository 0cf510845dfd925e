use Rattle.ps_circuit.proofs.header.+sections.Given as goal

abbrev pub decreases-sections : goal.decreases-sections
decreases-sections l = l.left
