use Rattle.ps_automaton.proofs.ChainsOfSets.Gatherings.{IsGathering}
use Rattle.ps_automaton.proofs.chain.gather.Given as goal

abbrev pub invariant-loop-k : goal.invariant-loop-k
invariant-loop-k l = IsGathering l.accepts l.operands l.fn.links.items l.links.items l.k l.remaining
