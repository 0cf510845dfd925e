use Rattle.std.proofs.Common.{◌≡◌, Some, arith, inl, inr, subst, ◌∙◌, ℕ}
use Rattle.std.specs.Prelude.{Contains, slice_get}
use Rattle.std.proofs.lemmas.Bool.{cases_lt}
use Rattle.std.proofs.lemmas.Option.{get_or_from_slice_get, slice_get_within}
use Rattle.ps_product.proofs.ExploredProducts.WordNumbers.{grown_on}
use Rattle.ps_tableau_product.specs.declared.joint.JointEdge.{JointEdge}
use Rattle.ps_tableau_product.proofs.JointProducts.EdgePriorities.{contains_grown, number_placed}
use Rattle.ps_tableau_product.proofs.joint.add_priorities.Goals as goal

pub loop-edge-preserved : goal.loop-edge-preserved
loop-edge-preserved c =
    let inv = c.loop-edge.invariant in
    let placed = number_placed _ _ c.edge-item.result.priority c.in_ok-_place._place c.in_ok-_place.ensures.0 in
    record {
      grown = grown_on inv.grown placed.0;
      has = λ k e lt at. elim (cases_lt k c.loop-edge.edge-index) [
        | inl below ↦ contains_grown e.priority placed.0 (inv.has k e below at)
        | inr above ↦
            let same : k ≡ c.loop-edge.edge-index = omega (arith, lt, above) in
            let here : c.edge-item.result ≡ e = c.edge-item.is
            ∙ get_or_from_slice_get c.args.row.now c.loop-edge.edge-index e c.edge-item.result
            (subst (λ (n : ℕ). slice_get c.args.row.now n ≡ Some e) same at) in
            subst (λ (x : JointEdge). Contains c.place_of.new.self x.priority) here placed.1
      ];
    }

pub returns-clause-has : goal.returns-clause-has
returns-clause-has c = λ k e at.
    c.loop-edge.invariant.has k e (omega (arith, c.loop-edge-test.false, slice_get_within c.args.row.now k e at)) at
