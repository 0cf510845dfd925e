use Rattle.ps_automaton.proofs.edge_labels.+left_behind.Given as goal

abbrev pub decreases-left_behind : goal.decreases-left_behind
decreases-left_behind l = goal.size-left_behind l
