use Rattle.ps_parts.proofs.letters.Letters.+of_node.Given as goal

abbrev pub decreases-of_node : goal.decreases-of_node
decreases-of_node l = l.depth
