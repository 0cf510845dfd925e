use Rattle.std.proofs.Common.{arith, subst, sym}
use Rattle.std.proofs.lemmas.Result.{IfOk-weaker}
use Rattle.ps_circuit.specs.Circuits.{IsCircuit}
use Rattle.ps_circuit.specs.Drafts.{data_of}
use Rattle.ps_aiger.specs.Inner.Functions.{behaviour_of}
use Rattle.ps_aiger.specs.Inner.Built.{IsCircuitOf}
use Rattle.ps_aiger.proofs.CircuitSteps.{sees}
use Rattle.ps_aiger.proofs.CircuitThere.{IsWhole, draft, encodes, is_tidy, ordered, whole, wired}
use Rattle.ps_aiger.proofs.WireLemmas.{next_many}
use Rattle.ps_aiger.proofs.encoding.circuit_of.Goals as goal
use Rattle.ps_aiger.proofs.encoding.circuit_of.Goals.{In_ok-parts}

pub parts_of-requires : goal.parts_of-requires
parts_of-requires c =
    let b = behaviour_of c.args.machine.now in
    grind (arith, next_many b c.args.latches)

-- the gates and literals of the returned circuit are those that the definition `output_wires` builds for the machine
all : (c : In_ok-parts) → IsWhole (behaviour_of c.args.machine.now) c.args.latches (data_of c.in_ok-parts.parts)
all c = whole (behaviour_of c.args.machine.now) c.args.latches c.args.builder.now c.args.next.now c.args.outputs.items
    (data_of c.in_ok-parts.parts) c.parts_of.ensures.sound c.requires.next_wired c.requires.output_wired
    c.in_ok-parts.ensures.built

pub in_order-requires : goal.in_order-requires
in_order-requires c =
    let b = behaviour_of c.args.machine.now in
    let x = data_of c.in_ok-parts.parts in
    let machine = c.parts_of.ensures.machine in
    record {
      draft = draft b machine c.args.latches x (all c);
      ordered = ordered b machine c.args.latches x (all c);
    }

pub returns : goal.returns
returns e =
    let c = (goal.at.returns e).In_ok-parts in
    let b = behaviour_of c.args.machine.now in
    let x = data_of c.in_ok-parts.parts in
    let machine = c.parts_of.ensures.machine in
    let r = c.requires in
    IfOk-weaker e.in_order.result _ _ (λ y made.
    let encoded = encodes b machine c.args.latches x (all c) r.enough r.least (subst IsCircuit made.is made.well_formed)
    in
    subst (IsCircuitOf b) (sym made.is) (record {
      encodes = encoded;
      tidy = is_tidy b machine c.args.latches x (all c);
      wired = wired b machine c.args.latches x (all c);
      sees_no_input = sees b x machine encoded;
    })) e.in_order.ensures
