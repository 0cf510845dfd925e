use Rattle.std.proofs.Common.{arith, refl}
use Rattle.ps_circuit.specs.Drafts.{data_of}
use Rattle.ps_circuit.proofs.GatesAndLinks.LinksLemmas.{gates_once, links_within, order-of_links, acyclic-of_links}
use Rattle.ps_circuit.proofs.GatesAndLinks.LinksLemmas.{cyclic-of_links}
use Rattle.ps_circuit.proofs.circuit.Circuit.arranged.Goals as goal

pub links_of-requires : goal.links_of-requires
links_of-requires c = grind (arith, gates_once (data_of c.args.parts) c.requires.once)

pub invariant_of-graph : goal.invariant_of-graph
invariant_of-graph c = record { within = links_within _ _ c.in_ok-links.ensures }

pub invariant_of-result : goal.invariant_of-result
invariant_of-result c = grind (arith, acyclic-of_links, order-of_links)

pub returns-in-Order-clause-made : goal.returns-in-Order-clause-made
returns-in-Order-clause-made c = record { is = refl; well_formed = grind (arith, acyclic-of_links) }

pub returns-in-Cyclic-clause-cyclic : goal.returns-in-Cyclic-clause-cyclic
returns-in-Cyclic-clause-cyclic c =
    let links = rw c.deref.ensures.value at c.in_ok-links.ensures in
    let arranged = rw c.in-Cyclic.is at c.in_ok-arrangement.ensures in
    grind (arith, cyclic-of_links _ _ links arranged)
