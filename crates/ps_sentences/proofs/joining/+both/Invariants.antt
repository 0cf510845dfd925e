use Rattle.ps_sentences.proofs.joining.+both.Given as goal

abbrev pub decreases-both : goal.decreases-both
decreases-both l = l.depth
