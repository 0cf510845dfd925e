use Rattle.std.proofs.Common.{◌∙◌, refl, sym, arith}
use Rattle.ps_measure.proofs.LinksOfEdges.RemainingEdges.{leads_low, leads_nowhere, none_low_next, high_target}
use Rattle.ps_measure.proofs.layer.Layer.leads_down.Goals as goal
use Rattle.ps_measure.proofs.layer.Layer.leads_down.Goals.{in-Some+else-is_low, in_default}

pub returns-then-is_low : goal.returns-then-is_low
returns-then-is_low g c =
    let reverse = c.self.invariant.reverse in
    let vertex = rw (← c.self.view_is) at c.requires.vertex in
    let level = rw (← c.self.view_is) at c.requires.level in
    rw (← c.self.view_is) (
      (λ e. (
        c.in-Some.to,
        leads_low c.self.inside.low.now c.loop-place.place reverse (omega (
          arith,
          vertex,
          reverse.count,
        )) (omega (arith, c.loop-place-test.true, c.degree-place-end.ensures)) (sym c.in-Some.ensures.target) level
            (sym c.is_low.ensures ∙ c.if-is_low.true),
      )),
      (λ h. refl),
    )

pub loop-place-preserved : goal.loop-place-preserved
loop-place-preserved g c = grind (arith, in-Some+else-is_low, none_low_next, high_target, in_default)

pub returns : goal.returns
returns g c = rw (← c.self.view_is) (
  (λ e. absurd cc),
  (λ h. absurd (leads_nowhere c.self.invariant.reverse (omega (
    arith,
    c.degree-place-end.ensures,
    c.loop-place-test.false,
  )) c.loop-place.invariant h.1)),
)
