use Rattle.ps_diagram.specs.Inner.Numbered.{AreOf}
use Rattle.ps_diagram.proofs.classes.listed.Given as goal

abbrev pub invariant-loop-pair : goal.invariant-loop-pair
invariant-loop-pair l = AreOf l.leaves l.pair-index l.list.items
