use Rattle.std.proofs.Common.{arith, ap, length}
use Rattle.std.proofs.lemmas.List.{length-map}
use Rattle.ps_product.specs.Inner.Nets.{sides_of}
use Rattle.ps_simulate.proofs.EvaluationPlans.LanePlanLemmas.{few_variables}
use Rattle.ps_simulate.proofs.EvaluationPlans.RowLemmas.{length-variables}
use Rattle.ps_product.proofs.net.Net.size.Goals as goal

pub overflow_add-result : goal.overflow_add-result
overflow_add-result c =
    let circuit = c.self.inside.circuit.now in
    let each = ap length c.self.invariant.gates_are in
    grind (
      arith,
      few_variables c.self.invariant.is_circuit,
      length-variables circuit,
      each,
      length-map circuit.gates (sides_of circuit),
    )
