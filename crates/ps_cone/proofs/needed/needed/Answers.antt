use Rattle.std.proofs.Common.{◌≡◌, ap, ◌∙◌}
use Rattle.std.proofs.lemmas.Result.{IfOk-weaker}
use Rattle.ps_circuit.specs.Circuits.{CircuitData}
use Rattle.ps_circuit.specs.Drafts.{links_by, place_in}
use Rattle.ps_circuit.specs.GateGraphs.{AreLinksOf, gate_variables}
use Rattle.ps_circuit.proofs.GatesAndLinks.LinksLemmas.{links-by_variables, links_within}
use Rattle.ps_cone.specs.Cones.{readers}
use Rattle.ps_cone.specs.Masks.{with_outputs}
use Rattle.ps_cone.proofs.OutputNeeds.{are_needed, roots_within}
use Rattle.ps_cone.proofs.SourceLemmas.{readers_once}
use Rattle.ps_cone.proofs.needed.needed.Goals as goal
use Rattle.ps_cone.proofs.needed.needed.Goals.{In_ok-links}

-- the circuit with the given outputs
abbrev whole : In_ok-links → CircuitData
whole c = with_outputs c.args.circuit.now c.args.outputs.now

same : (c : In_ok-links) → c.in_ok-variables.variables ≡ gate_variables (readers c.args.circuit.now)
same c = c.in_ok-variables.ensures ∙ ap gate_variables (c.deref.ensures.value ∙ c.in_ok-readers.ensures)

links : (c : In_ok-links) → AreLinksOf (readers c.args.circuit.now) c.in_ok-links.links.items
links c = links-by_variables (readers_once c.requires) (same c)
    (c.in_ok-links.ensures
    ∙ ap (links_by (place_in c.in_ok-variables.variables)) (c.deref-2.ensures.value ∙ c.in_ok-readers.ensures))

pub gate_variables-requires : goal.gate_variables-requires
gate_variables-requires c = record {
  once = rw (c.deref.ensures.value, c.in_ok-readers.ensures) (readers_once c.requires);
}

pub invariant_of-graph : goal.invariant_of-graph
invariant_of-graph c = record { within = links_within (readers c.args.circuit.now) _ (links c) }

pub reached-requires : goal.reached-requires
reached-requires c =
    let at = (goal.at.reached-requires c).In_ok-links in
    rw c.deref-3.ensures.value
    (roots_within (whole at) c.requires c.in_ok-links.links.items (links at) (same at) c.in_ok-roots.ensures)

pub returns : goal.returns
returns c =
    let at = (goal.at.returns c).In_ok-links in
    IfOk-weaker c.reached.result _ _ (λ needed f. are_needed (whole at) c.requires c.in_ok-links.links.items (links at)
    (same at) (c.deref-3.ensures.value ∙ c.in_ok-roots.ensures) f) c.reached.ensures
