use Rattle.std.proofs.Common.{◌≡◌, true, arith, below_more}
use Rattle.std.proofs.lemmas.Option.{slice_get_within}
use Rattle.ps_fairness.specs.Inner.Inside.{IsWanted}
use Rattle.ps_fairness.proofs.InsideLemmas.{each_push, inside_push, slots}
use Rattle.ps_fairness.proofs.full.marked_edges.Goals as goal
use Rattle.ps_fairness.proofs.full.marked_edges.Goals.{then-not-is_on_one+in-Some+in_ok-push, else-not-is_on_one}

pub is_on_one-requires : goal.is_on_one-requires
is_on_one-requires g c = rw c.deref.ensures.value (slots (g.G.Graph.graph c.args.graph.now) c.args.components.now
    c.args.number c.loop-mark.edges.items c.loop-mark.invariant.inside)

pub loop-mark-preserved : goal.loop-mark-preserved
loop-mark-preserved g c =
    let graph = g.G.Graph.graph c.args.graph.now in
    let marks = g.G.Marked.marks c.args.graph.now in
    let edges = c.loop-mark.edges.items in
    elim c.if-not-is_on_one.branch [
      | then-not-is_on_one+in-Some+in_ok-push w ↦
          let wanted : IsWanted graph marks c.args.components.now c.args.number c.loop-mark.mark w.in-Some.edge =
          rw w.in-Some.is at w.edge_within.ensures.some in
          record {
            inside = rw (w.edges-is, w.in_ok-push.ensures.items)
                (inside_push graph c.args.components.now c.args.number edges w.in-Some.edge
                c.loop-mark.invariant.inside wanted.inside);
            each = rw (w.edges-is, w.in_ok-push.ensures.items) (each_push marks c.loop-mark.mark edges w.in-Some.edge
                c.loop-mark.invariant.each wanted.bears);
          }
      | else-not-is_on_one w ↦
          let yes : c.is_on_one.result ≡ true = grind arith in
          let on = rw c.deref.ensures.value at (c.is_on_one.ensures yes) in
          record {
            inside = rw w.edges-is c.loop-mark.invariant.inside;
            each = rw w.edges-is (below_more _ _ c.loop-mark.invariant.each on);
          }
    ]

pub returns : goal.returns
returns g c =
    let first = c.loop-mark.invariant.each 0 (omega (arith, c.loop-mark-test.false, c.max-mark-end.ensures)) in
    record {
      inside = record {
        some = omega (arith, slice_get_within c.loop-mark.edges.items first.at first.edge first.is);
        inside = c.loop-mark.invariant.inside;
      };
      each = λ mark lt. c.loop-mark.invariant.each mark
          (omega (arith, c.loop-mark-test.false, c.max-mark-end.ensures, c.mark_count.ensures));
    }
