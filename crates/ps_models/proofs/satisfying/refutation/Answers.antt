use Rattle.std.proofs.Common.{ap, arith, get_or, map, subst, ◌∙◌, ℕ}
use Rattle.ps_fairness.specs.Marks.{Leads}
use Rattle.ps_fairness.specs.declared.edge.Edge.{Edge}
use Rattle.ps_tableau_product.specs.Graphs.{graph_of, inputs_along}
use Rattle.ps_tableau_product.proofs.FairProducts.AddLemmas.{ok_two}
use Rattle.ps_models.proofs.JudgedCircuits.JudgingLemmas.{first_of_walk, slots_of}
use Rattle.ps_models.proofs.satisfying.refutation.Goals as goal

abbrev no_edge : Edge
no_edge = record { vertex = 0; slot = 0 }

pub walk_to-requires : goal.walk_to-requires
walk_to-requires c =
    let cycle = c.requires in
    let first = first_of_walk c.args.graph.now cycle.start cycle.start c.args.cycle.now no_edge cycle.some cycle.returns
    in
    omega (arith, first.1)

pub stimulus_along-requires-clause-stem : goal.stimulus_along-requires-clause-stem
stimulus_along-requires-clause-stem c =
    let found = rw c.in-Some.is at c.in_ok-stem.ensures.found in
    rw c.deref.ensures.value (slots_of 0 (get_or c.args.cycle.now 0 no_edge).vertex c.in-Some.stem.items found)

pub stimulus_along-requires-clause-lap : goal.stimulus_along-requires-clause-lap
stimulus_along-requires-clause-lap c =
    let cycle = c.requires in slots_of cycle.start cycle.start c.args.cycle.now cycle.returns

pub returns : goal.returns
returns c =
    let g = c.args.graph.now in
    let cycle = c.requires in
    let first = first_of_walk g cycle.start cycle.start c.args.cycle.now no_edge cycle.some cycle.returns in
    let stem = c.in-Some.stem.items in
    let found = rw c.in-Some.is at c.in_ok-stem.ensures.found in
    let leads : Leads (graph_of g) stem 0 cycle.start =
    subst (λ (n : ℕ). Leads (graph_of g) stem 0 n) first.0 found in
    ok_two _ _ _ c.stimulus_along.result c.stimulus_along.ensures.stem c.stimulus_along.ensures.lap
    (λ stimulus stem_is lap_is. record {
      stem = stem;
      lap = c.args.cycle.now;
      cycle = cycle;
      leads = leads;
      stem_is = stem_is ∙ ap (map (inputs_along g)) c.deref.ensures.value;
      lap_is = lap_is;
    })
