use Rattle.ps_diagram.proofs.TreesFromData.CaseLists.{AreTestedBy}
use Rattle.ps_diagram.proofs.cases.tested_by.Given as goal

abbrev pub invariant-loop-case : goal.invariant-loop-case
invariant-loop-case l = AreTestedBy l.cases l.case-index l.tested
