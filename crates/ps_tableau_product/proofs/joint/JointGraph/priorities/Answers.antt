use Rattle.std.proofs.Common.{◌≡◌, ◌<◌, List, Some, Vec, [], ap, arith, inl, inr, length, map, subst, sym, ◌∙◌}
use Rattle.std.proofs.Common.{ℕ}
use Rattle.std.specs.Global.{Global}
use Rattle.std.specs.Prelude.{slice_get}
use Rattle.std.proofs.lemmas.Bool.{cases_lt}
use Rattle.std.proofs.lemmas.List.{get_or-map, get_or_past, length-map}
use Rattle.std.proofs.lemmas.Option.{slice_get_within}
use Rattle.ps_tableau_product.specs.JointGraphs.{JointData, joint_row}
use Rattle.ps_tableau_product.specs.declared.joint.JointEdge.{JointEdge}
use Rattle.ps_tableau_product.proofs.JointProducts.EdgePriorities.{contains_grown, row_inside}
use Rattle.ps_tableau_product.proofs.joint.JointGraph.priorities.Goals as goal

pub loop-row-preserved : goal.loop-row-preserved
loop-row-preserved c = λ v k e lt at. elim (cases_lt v c.loop-row.row-index) [
  | inl below ↦ contains_grown e.priority c.in_ok-add_priorities.ensures.grown (c.loop-row.invariant v k e below at)
  | inr above ↦
      let rows = c.self.inside.rows.items in
      let same : v ≡ c.loop-row.row-index = omega (arith, lt, above) in
      let low : c.loop-row.row-index < length rows =
      omega (
        arith,
        c.loop-row-test.true,
        ap (λ (l : List (Vec JointEdge Global)). length l) c.deref-row-items.ensures.value,
      )
      in
      let here : joint_row (map (λ (row : Vec JointEdge Global). row.items) rows) c.loop-row.row-index ≡
      c.row-item.result.items =
      get_or-map (λ (row : Vec JointEdge Global). row.items) rows c.loop-row.row-index c.row-item.result [] low
      ∙ ap (λ (row : Vec JointEdge Global). row.items) (sym (row_inside _ _ c.loop-row.row-index
      c.row-item.result c.deref-row-items.ensures.value c.row-item.is)) in
      let there : slice_get c.row-item.result.items k ≡ Some e =
      subst (λ (l : List JointEdge). slice_get l k ≡ Some e) here
      (subst (λ (n : ℕ). slice_get (joint_row (map (λ (row : Vec JointEdge Global). row.items) rows) n) k ≡ Some e)
      same (subst (λ (g : JointData). slice_get (joint_row g.rows v) k ≡ Some e) (sym c.self.view_is) at)) in
      c.in_ok-add_priorities.ensures.has k e
      (subst (λ (l : List JointEdge). slice_get l k ≡ Some e) (sym c.deref.ensures.value) there)
]

pub returns : goal.returns
returns c = λ v k e at. elim (cases_lt v c.loop-row.row-index) [
  | inl below ↦ c.loop-row.invariant v k e below at
  | inr above ↦
      let rows = c.self.inside.rows.items in
      let long : length c.args.self.now.rows ≡ length rows =
      ap (λ (g : JointData). length g.rows) (sym c.self.view_is)
      ∙ length-map rows (λ (row : Vec JointEdge Global). row.items) in
      let end = ap (λ (l : List (Vec JointEdge Global)). length l) c.deref-row-items.ensures.value in
      let none : joint_row c.args.self.now.rows v ≡ [] =
      get_or_past c.args.self.now.rows v [] (omega (arith, above, c.loop-row-test.false, long, end)) in
      absurd (omega (
        arith,
        slice_get_within [] k e (subst (λ (l : List JointEdge). slice_get l k ≡ Some e) none at),
      ))
]
