use Rattle.std.proofs.Common.{arith, ℕ, ◌<◌, ◌≡◌, ◌∙◌, ◌-◌, Some, get_or, length, List, ap, rules}
use Rattle.std.specs.Prelude.{slice_get}
use Rattle.std.proofs.lemmas.Option.{slice_get-get_or}
use Rattle.ps_components.specs.ComponentLists.{ComponentsData}
use Rattle.ps_measure.proofs.RaisedCounts.Passing.{grows_on}
use Rattle.ps_measure.proofs.RaisedCounts.PassSteps.{settle_one, grows_within}
use Rattle.ps_measure.proofs.column.Column.settle.Goals as goal

-- the vertex that the code reads at an index of `order` is the entry of that list at the index
vertex_at : (order items : List ℕ) (place : ℕ) → items ≡ order → place < length order →
    slice_get order place ≡ Some (get_or items place 0)
vertex_at order items place same within = rw same (slice_get-get_or order place 0 within)

pub loop-place-preserved-in_default-pass_all : goal.loop-place-preserved-in_default-pass_all
loop-place-preserved-in_default-pass_all g c =
    let inv = c.loop-place.invariant in
    let comps = c.loop-place.self.components in
    let at = vertex_at comps.order c.order.result.now (c.loop-place.place - 1) c.order.ensures
    (omega (arith, c.loop-place-test.true, inv.within)) in
    let below = inv.raised.counting.components.below _ c.in-Some.number c.in-Some.ensures in
    let long = ap (λ (d : ComponentsData). length d.order) inv.raised.components in
    let all = c.pass_all.ensures.raised in
    record {
      raised = record {
        counting = all.counting;
        components = all.components ∙ inv.raised.components;
        grows = grows_on inv.raised.grows (grows_within (omega (arith, below, long)) all.grows);
      };
      within = search rules;
      passed = settle_one c.args.low.now c.loop-place.place all.components inv.raised.counting.components
          (omega (arith, c.loop-place-test.true)) at c.in-Some.ensures all.grows inv.passed
          (λ v link. c.in_default-pass_all.ensures.passed v link);
    }

pub loop-place-preserved : goal.loop-place-preserved
loop-place-preserved g c =
    let inv = c.loop-place.invariant in
    let comps = c.loop-place.self.components in
    grind (
      arith,
      vertex_at comps.order c.order.result.now (c.loop-place.place - 1) c.order.ensures
          (omega (arith, c.loop-place-test.true, inv.within)),
    )

pub returns-clause-passed : goal.returns-clause-passed
returns-clause-passed g c =
    let e : c.loop-place.place ≡ 0 = omega (arith, c.loop-place-test.false) in
    rw e at c.loop-place.invariant.passed
