use Rattle.std.proofs.Common.{arith, ap, sym, ◌∙◌}
use Rattle.std.proofs.lemmas.Bool.{both_ways}
use Rattle.ps_measure.specs.Inner.Groups.{LayerData}
use Rattle.ps_measure.specs.Inner.Remaining.{low_weight}
use Rattle.ps_measure.proofs.LinksOfEdges.Roots.{roots_more, roots_skip, roots_all}
use Rattle.ps_measure.proofs.layer.Layer.roots.Goals as goal
use Rattle.ps_measure.proofs.layer.Layer.roots.Goals.{then-weight-eq1+then-leads_down+in_ok-push, else-weight-eq1}
use Rattle.ps_measure.proofs.layer.Layer.roots.Goals.{else-weight-eq1-via-then-weight-eq1+else-leads_down}
use Rattle.ps_measure.proofs.layer.Layer.roots.Goals.{else-weight-eq1-via-else-weight-eq1}

pub loop-number-preserved : goal.loop-number-preserved
loop-number-preserved g c =
    let lows = ap (λ (l : LayerData). l.low) c.self.view_is in
    let weight = c.weight.ensures ∙ ap (λ low. low_weight low c.candidate-vertex.result) lows in
    elim c.if-weight-eq1.branch [
      | then-weight-eq1+then-leads_down+in_ok-push w ↦
          let down = w.leads_down.ensures.0 w.if-leads_down.true in
          rw (w.roots-is, w.in_ok-push.ensures.items) (roots_more c.candidate-vertex.ensures.is down.1
          (sym weight ∙ w.if-weight-eq1.true) c.loop-number.invariant)
      | else-weight-eq1 w ↦ rw w.roots-is (roots_skip c.candidate-vertex.ensures.is (elim w.else-weight-eq1.branch [
        | else-weight-eq1-via-then-weight-eq1+else-leads_down u ↦ λ x link heavy. both_ways u.leads_down.result
            u.if-leads_down.false (u.leads_down.ensures.1 (x, link))
        | else-weight-eq1-via-else-weight-eq1 u ↦ λ x link heavy. u.if-weight-eq1.false (weight ∙ heavy)
      ]) c.loop-number.invariant)
    ]

pub returns : goal.returns
returns g c =
    let lows = ap (λ (l : LayerData). l.low) c.self.view_is in
    roots_all c.args.self.now.members c.args.self.now.place (omega (
      arith,
      c.loop-number-test.false,
      c.candidates-number-end.ensures,
    )) (rw lows at c.count-vertices.ensures.within) (rw c.self.view_is at c.self.invariant).group
    c.loop-number.invariant
