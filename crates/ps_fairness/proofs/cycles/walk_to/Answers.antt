use Rattle.std.proofs.Common.{◌≡◌, ◌++◌, List, ap, sym, subst, ◌∙◌}
use Rattle.std.proofs.lemmas.Option.{slice_get_within}
use Rattle.ps_fairness.specs.Marks.{Leads}
use Rattle.ps_fairness.specs.declared.edge.Edge.{Edge}
use Rattle.ps_fairness.proofs.cycles.walk_to.Goals as goal

pub append_trail-requires : goal.append_trail-requires
append_trail-requires g c =
    let trail = rw c.in-Some.is at c.in_ok-trail.ensures.found in
    rw c.deref.ensures.value
    (record { some = slice_get_within c.in-Some.trail.items 0 c.args.to trail.first; links = trail.links })

pub returns-clause-found : goal.returns-clause-found
returns-clause-found g c =
    let trail = rw c.in-Some.is at c.in_ok-trail.ensures.found in
    let out = c.in_ok-append_trail.ensures c.args.from c.args.to (rw c.deref.ensures.value trail.last)
    (rw c.deref.ensures.value trail.first) in
    let same : c.append_trail.new.walk.items ≡ out.more =
    out.new_is ∙ ap (λ (l : List Edge). l ++ out.more) c.new-walk.ensures.items in
    subst (λ (w : List Edge). Leads (g.G.Graph.graph c.args.graph.now) w c.args.from c.args.to) (sym same) out.leads
