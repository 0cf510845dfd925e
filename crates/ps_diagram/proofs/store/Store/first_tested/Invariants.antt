use Rattle.ps_diagram.specs.Inner.Splitting.{AreUntested}
use Rattle.ps_diagram.proofs.store.Store.first_tested.Given as goal

abbrev pub invariant-loop-proposition : goal.invariant-loop-proposition
invariant-loop-proposition l = AreUntested l.level l.proposition l.cases
