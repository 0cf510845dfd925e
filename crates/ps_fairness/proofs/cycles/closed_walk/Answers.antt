use Rattle.std.proofs.Common.{◌≡◌, inl, inr, refl, get_or, length, arith}
use Rattle.std.proofs.lemmas.Bool.{cases_lt}
use Rattle.std.proofs.lemmas.Option.{slice_get-get_or, slice_get_within}
use Rattle.ps_fairness.specs.declared.edge.Edge.{Edge}
use Rattle.ps_fairness.proofs.InsideLemmas.{at_last, kept}
use Rattle.ps_fairness.proofs.WalkLemmas.{GoesOnTo-push, Leads-more, kept_more, one_end}
use Rattle.ps_fairness.proofs.cycles.closed_walk.Goals as goal

pub loop-edge-init : goal.loop-edge-init
loop-edge-init g c = record {
  inside = (c.requires.inside.inside 0 _ (slice_get-get_or c.args.edges.now 0 (record { vertex = 0; slot = 0 })
      c.requires.inside.some)).here;
  leads = rw c.new-walk.ensures.items refl;
  has = λ i e lt. absurd (omega arith);
}

pub go_on-requires-clause-to : goal.go_on-requires-clause-to
go_on-requires-clause-to g c = (c.requires.inside.inside c.loop-edge.edge-index _
    (slice_get-get_or c.args.edges.now c.loop-edge.edge-index (record { vertex = 0; slot = 0 })
    c.loop-edge-test.true)).here

pub end_of-at-requires : goal.end_of-at-requires
end_of-at-requires g c =
    let h = c.requires.inside.inside c.loop-edge.edge-index _
    (slice_get-get_or c.args.edges.now c.loop-edge.edge-index (record { vertex = 0; slot = 0 }) c.loop-edge-test.true) in
    (h.to, h.edge)

pub go_on-requires-2-clause-to : goal.go_on-requires-2-clause-to
go_on-requires-2-clause-to g c = (c.requires.inside.inside 0 _
    (slice_get-get_or c.args.edges.now 0 (record { vertex = 0; slot = 0 }) c.requires.inside.some)).here

pub loop-edge-preserved : goal.loop-edge-preserved
loop-edge-preserved g c =
    let d : Edge = record { vertex = 0; slot = 0 } in
    let edges = c.args.edges.now in
    let index = c.loop-edge.edge-index in
    let edge = get_or edges index d in
    let at_index = slice_get-get_or edges index d c.loop-edge-test.true in
    let h = c.requires.inside.inside index edge at_index in
    let gone = c.in_ok-go_on.ensures in
    let same = one_end h.edge c.end_of-at.ensures in
    record {
      inside = rw same at h.there;
      leads = rw c.in_ok-push.ensures.items (Leads-more (get_or edges 0 d).vertex c.loop-edge.invariant.leads
          (GoesOnTo-push edge gone refl c.end_of-at.ensures));
      has = λ i e lt at. elim (cases_lt i index) [
        | inl less ↦
            let j = c.loop-edge.invariant.has i e less at in
            (j.0, rw c.in_ok-push.ensures.items (kept c.go_on.new.walk.items _ j.0 e (kept_more gone j.0 e j.1)))
        | inr behind ↦
            let here : i ≡ index = omega arith in
            let one : edge ≡ e = cc in (
              length c.go_on.new.walk.items,
              rw (c.in_ok-push.ensures.items, one) (at_last c.go_on.new.walk.items e),
            )
      ];
    }

pub returns : goal.returns
returns g c =
    let edges = c.args.edges.now in
    let d : Edge = record { vertex = 0; slot = 0 } in
    let gone = c.in_ok-go_on-2.ensures in
    let first = c.loop-edge.invariant.has 0 (get_or edges 0 d)
    (omega (arith, c.requires.inside.some, c.loop-edge-test.false)) (slice_get-get_or edges 0 d c.requires.inside.some) in
    record {
      some = omega (
        arith,
        slice_get_within c.go_on-2.new.walk.items first.0 (get_or edges 0 d)
            (kept_more gone first.0 (get_or edges 0 d) first.1),
      );
      start = (get_or edges 0 d).vertex;
      returns = Leads-more (get_or edges 0 d).vertex c.loop-edge.invariant.leads gone;
      each = λ i e at. (let lt = slice_get_within edges i e at in
          let there = c.loop-edge.invariant.has i e (omega (arith, lt, c.loop-edge-test.false)) at in
          (there.0, kept_more gone there.0 e there.1));
    }
