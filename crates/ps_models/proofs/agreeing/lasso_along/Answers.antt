use Rattle.std.proofs.Common.{ap, arith, get_or, map, subst, ◌∙◌, ℕ}
use Rattle.ps_fairness.specs.Marks.{Leads}
use Rattle.ps_fairness.specs.declared.edge.Edge.{Edge}
use Rattle.ps_tableau_product.specs.JointGraphs.{capped_graph, joint_graph, letter_along}
use Rattle.ps_tableau_product.proofs.JointProducts.JointWalks.{first_on}
use Rattle.ps_models.proofs.ComparedAutomata.JointReadings.{capped_slots, joint_slots}
use Rattle.ps_models.proofs.agreeing.lasso_along.Goals as goal

abbrev no_edge : Edge
no_edge = record { vertex = 0; slot = 0 }

pub walk_to-requires : goal.walk_to-requires
walk_to-requires c =
    let cycle = c.requires in
    let first =
    first_on (capped_graph c.args.capped.graph.now c.args.capped.priority) cycle.start cycle.start c.args.cycle.now
    no_edge
    cycle.some cycle.returns in
    omega (arith, first.1)

pub letters-requires : goal.letters-requires
letters-requires c =
    let found = rw c.in-Some.is at c.in_ok-walk.ensures.found in
    rw c.deref.ensures.value
    (joint_slots c.args.capped.graph.now 0 (get_or c.args.cycle.now 0 no_edge).vertex c.in-Some.walk.items found)

pub letters-requires-2 : goal.letters-requires-2
letters-requires-2 c =
    let cycle = c.requires in
    capped_slots c.args.capped.graph.now c.args.capped.priority cycle.start cycle.start c.args.cycle.now cycle.returns

pub returns : goal.returns
returns c =
    let g = c.args.capped.graph.now in
    let cycle = c.requires in
    let first =
    first_on (capped_graph g c.args.capped.priority) cycle.start cycle.start c.args.cycle.now no_edge cycle.some
    cycle.returns in
    let stem = c.in-Some.walk.items in
    let found = rw c.in-Some.is at c.in_ok-walk.ensures.found in
    let leads : Leads (joint_graph g) stem 0 cycle.start =
    subst (λ (n : ℕ). Leads (joint_graph g) stem 0 n) first.0 found in
    record {
      stem = stem;
      lap = c.args.cycle.now;
      cycle = cycle;
      leads = leads;
      stem_is = c.in_ok-stem.ensures ∙ ap (map (letter_along g)) c.deref.ensures.value;
      lap_is = c.in_ok-lap.ensures;
    }

pub unreachable-requires : goal.unreachable-requires
unreachable-requires c =
    let g = c.args.capped.graph.now in
    let cycle = c.requires in
    let first =
    first_on (capped_graph g c.args.capped.priority) cycle.start cycle.start c.args.cycle.now no_edge cycle.some
    cycle.returns in
    let none = rw c.in_default.is at c.in_ok-walk.ensures.none in
    none (c.parts_fit.ensures.joined (get_or c.args.cycle.now 0 no_edge).vertex first.1)
