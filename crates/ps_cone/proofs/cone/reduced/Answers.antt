use Rattle.std.proofs.Common.{List, subst, sym, ℕ}
use Rattle.ps_circuit.specs.Circuits.{IsCircuit}
use Rattle.ps_cone.specs.Masks.{with_outputs}
use Rattle.ps_cone.proofs.cone.reduced.Goals as goal

pub cone_of-requires : goal.cone_of-requires
cone_of-requires c = subst (λ (outputs : List ℕ). IsCircuit (with_outputs c.args.circuit.now outputs))
    (sym c.outputs-outputs.ensures.outputs) c.outputs-outputs.ensures.well_formed

pub returns : goal.returns
returns c = rw c.outputs-outputs.ensures.outputs at c.cone_of.ensures
