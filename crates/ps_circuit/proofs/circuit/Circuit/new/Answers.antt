use Rattle.std.proofs.Common.{arith, refl}
use Rattle.ps_circuit.specs.Drafts.{data_of}
use Rattle.ps_circuit.proofs.GatesAndLinks.LinksLemmas.{gates_once}
use Rattle.ps_circuit.proofs.circuit.Circuit.new.Goals as goal

pub by_variable-requires : goal.by_variable-requires
by_variable-requires c = grind (arith, gates_once (data_of c.args.parts) c.requires.once)

pub invariant_of-result : goal.invariant_of-result
invariant_of-result c =
    let made = rw (c.in-Some.is, c.deref.ensures.value) at c.in_ok-order.ensures in
    (record { draft = c.requires; acyclic = made.acyclic }, made.is_order)

pub returns-in-Some-clause-made : goal.returns-in-Some-clause-made
returns-in-Some-clause-made c =
    let made = rw (c.in-Some.is, c.deref.ensures.value) at c.in_ok-order.ensures in
    record { is = refl; well_formed = record { draft = c.requires; acyclic = made.acyclic } }
