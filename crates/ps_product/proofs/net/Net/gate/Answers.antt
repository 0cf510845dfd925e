use Rattle.std.proofs.Common.{◌≡◌, ◌-◌, ◌<◌, ◌∙◌, List, ap, arith, get_or, length}
use Rattle.std.proofs.lemmas.List.{get_or-map}
use Rattle.ps_product.specs.Inner.Nets.{sides_of}
use Rattle.ps_product.specs.declared.net.Sides.{Sides}
use Rattle.ps_simulate.specs.Plans.{no_gate}
use Rattle.ps_simulate.proofs.EvaluationPlans.RowLemmas.{length-variables}
use Rattle.ps_product.proofs.CircuitFunctions.NetLemmas.{gate_at}
use Rattle.ps_product.proofs.net.Net.gate.Goals as goal

pub returns : goal.returns
returns c =
    let n = c.self.invariant in
    let circuit = c.self.inside.circuit.now in
    let i = c.args.place - c.self.inside.front in
    let size = rw (← c.self.view_is) at c.requires in
    let within : i < length circuit.gates = omega (arith, size, n.front_is, length-variables circuit) in
    let is : c.index.result.now ≡ sides_of circuit (get_or circuit.gates i no_gate) = c.index.ensures
    ∙ ap (λ (xs : List Sides). get_or xs i c.index.result.now) n.gates_are
    ∙ get_or-map (sides_of circuit) circuit.gates i no_gate c.index.result.now within in
    rw (is, ← c.self.view_is) (gate_at n.is_circuit i c.args.place (omega (arith, n.front_is)) within)
