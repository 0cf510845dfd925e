use Rattle.ps_automaton.specs.Inner.Cases.{AreCases}
use Rattle.ps_automaton.proofs.cases.cases_of.Given as goal

abbrev pub invariant-loop-k : goal.invariant-loop-k
invariant-loop-k l = AreCases l.k l.products l.places l.targets l.cases.items
