use Rattle.ps_tlsf.specs.SpecificationViews.{specification_data}
use Rattle.ps_specification.specs.Requirements.{order_in, requirement_of}
use Rattle.ps_specification.proofs.FormulaJudges.{judged_for}
use Rattle.ps_specification.proofs.shrinking.BySpecificationJudge.judge.Goals as goal

pub returns-clause-judged : goal.returns-clause-judged
returns-clause-judged c =
    let spec = specification_data c.args.self.now.specification.now in
    judged_for (order_in spec) c.args.self.now.role (requirement_of spec) c.args.circuit.now c.judged.result
    c.judged.ensures.judged
