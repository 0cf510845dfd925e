use Rattle.std.proofs.Common.{◌≡◌, ◌∙◌, List, ap, subst, sym, ℕ}
use Rattle.std.specs.Prelude.{IfOk}
use Rattle.ps_circuit.specs.Circuits.{IsCircuit}
use Rattle.ps_cone.specs.Cones.{IsCone}
use Rattle.ps_cone.specs.Masks.{masked, with_outputs}
use Rattle.ps_cone.proofs.MaskRuns.{is_mask}
use Rattle.ps_cone.proofs.cone.reduced_to.Goals as goal
use Rattle.ps_cone.proofs.cone.reduced_to.Goals.{After-deref}

same : (c : After-deref) → c.deref.result.now ≡ masked 0 c.args.kept.now c.args.circuit.now.outputs
same c = c.deref.ensures.value ∙ c.in_ok-outputs.ensures ∙ ap (masked 0 c.args.kept.now) c.outputs.ensures.outputs

pub cone_of-requires : goal.cone_of-requires
cone_of-requires c = subst (λ (outputs : List ℕ). IsCircuit (with_outputs c.args.circuit.now outputs)) (sym (same c))
    (is_mask c.args.kept.now c.args.circuit.now c.outputs.ensures.well_formed c.requires)

pub returns : goal.returns
returns c = subst (λ (outputs : List ℕ). IfOk c.cone_of.result (IsCone (with_outputs c.args.circuit.now outputs)))
    (same (goal.at.returns c).After-deref) c.cone_of.ensures
