use Rattle.std.proofs.Common.{subst, sym}
use Rattle.std.proofs.lemmas.Result.{IfOk-weaker}
use Rattle.ps_circuit.specs.Circuits.{CircuitData}
use Rattle.ps_circuit.specs.Drafts.{data_of}
use Rattle.ps_cone.specs.Inner.Cuts.{HasPartsOf}
use Rattle.ps_cone.specs.Inner.Needed.{AreNeeded}
use Rattle.ps_cone.specs.Masks.{with_outputs}
use Rattle.ps_cone.proofs.ConeLemmas.{is_cone, parts_with}
use Rattle.ps_cone.proofs.CutLemmas.{is_draft, ordered}
use Rattle.ps_cone.proofs.cone.cone_of.Goals as goal
use Rattle.ps_cone.proofs.cone.cone_of.Goals.{In_ok-parts}

-- the circuit with the given outputs
abbrev whole : In_ok-parts → CircuitData
whole c = with_outputs c.args.circuit.now c.args.outputs.now

needs : (c : In_ok-parts) → AreNeeded (whole c) c.deref.result.now
needs c = subst (AreNeeded (whole c)) (sym c.deref.ensures.value) c.in_ok-needed.ensures

parts : (c : In_ok-parts) →
    HasPartsOf (whole c) c.args.outputs.now c.deref.result.now (data_of c.in_ok-parts.parts)
parts c = parts_with c.in_ok-parts.ensures

pub in_order-requires-clause-draft : goal.in_order-requires-clause-draft
in_order-requires-clause-draft c =
    let at = (goal.at.in_order-requires-clause-draft c).In_ok-parts in
    is_draft (whole at) c.requires c.deref.result.now (needs at) (data_of c.in_ok-parts.parts) (parts at)

pub in_order-requires-clause-ordered : goal.in_order-requires-clause-ordered
in_order-requires-clause-ordered c =
    let at = (goal.at.in_order-requires-clause-ordered c).In_ok-parts in
    ordered (whole at) c.requires c.deref.result.now (needs at) (data_of c.in_ok-parts.parts) (parts at)

pub returns : goal.returns
returns c =
    let at = (goal.at.returns c).In_ok-parts in
    IfOk-weaker c.in_order.result _ _ (is_cone (whole at) c.requires c.deref.result.now (needs at)
    (data_of c.in_ok-parts.parts) (parts at)) c.in_order.ensures
