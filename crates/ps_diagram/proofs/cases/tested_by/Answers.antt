use Rattle.ps_diagram.proofs.TreesFromData.CaseLists.{tested_more}
use Rattle.ps_diagram.proofs.cases.tested_by.Goals as goal

pub loop-case-preserved : goal.loop-case-preserved
loop-case-preserved c = tested_more _ c.loop-case.case-index _ _ c.loop-case-test.true c.loop-case.invariant
