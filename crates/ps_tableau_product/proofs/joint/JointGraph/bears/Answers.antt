use Rattle.std.proofs.Common.{◌≡◌, ◌<◌, List, Some, Vec, ap, arith, get_or, length, map, not, subst, sym, ◌∙◌}
use Rattle.std.specs.Global.{Global}
use Rattle.std.specs.Prelude.{Contains, slice_get}
use Rattle.std.proofs.lemmas.List.Elements.{Contains-get_or}
use Rattle.std.proofs.lemmas.Option.{get_or_from_slice_get}
use Rattle.ps_tableau.specs.Boards.{IsEdgeOf}
use Rattle.ps_tableau_product.specs.Graphs.{is_postponed}
use Rattle.ps_tableau_product.specs.JointGraphs.{JointData, joint_edge, joint_row, no_joint}
use Rattle.ps_tableau_product.specs.declared.joint.JointEdge.{JointEdge}
use Rattle.ps_tableau_product.proofs.FairProducts.GraphLemmas.{postponed_is}
use Rattle.ps_tableau_product.proofs.joint.JointGraph.bears.Goals as goal
use Rattle.ps_tableau_product.proofs.joint.JointGraph.bears.Goals.{After-postpones}

abbrev rows_in : After-postpones → List (List JointEdge)
rows_in c = map (λ (row : Vec JointEdge Global). row.items) c.self.inside.rows.items

there : (c : After-postpones) →
    slice_get (joint_row (rows_in c) c.args.vertex) c.args.slot ≡ Some c.edge-cover.result
there c = subst (λ (g : JointData). slice_get (joint_row g.rows c.args.vertex) c.args.slot ≡ Some c.edge-cover.result)
    (sym c.self.view_is) c.edge-cover.ensures

held : (c : After-postpones) → IsEdgeOf c.self.inside.tableau c.edge-cover.result.cover
held c = c.self.invariant.held c.args.vertex c.args.slot c.edge-cover.result (there c)

mark_low : (c : After-postpones) → c.args.mark < length c.self.inside.tableau.untils.items
mark_low c = omega (arith, ap (λ (g : JointData). length g.board.untils.items) c.self.view_is, c.requires.mark)

pub returns : goal.returns
returns c =
    let b = c.self.inside.tableau in
    let cover = c.edge-cover.result.cover in
    let until = get_or b.untils.items c.args.mark 0 in
    let known : Contains b.untils.items until = Contains-get_or b.untils.items c.args.mark 0 (mark_low c) in
    let told = rw c.untils.ensures at c.postpones.ensures in
    let is = postponed_is cover.postponed until c.self.invariant.board_is (held c).postponed known c.postpones.result
    told in
    let edge : joint_edge (rows_in c) c.args.vertex c.args.slot ≡ c.edge-cover.result =
    get_or_from_slice_get (joint_row (rows_in c) c.args.vertex) c.args.slot c.edge-cover.result no_joint (there c) in
    let here : not c.postpones.result ≡
    not (is_postponed b (joint_edge (rows_in c) c.args.vertex c.args.slot).cover until) =
    ap not (is ∙ ap (λ (x : JointEdge). is_postponed b x.cover until) (sym edge)) in
    subst (λ (g : JointData). not c.postpones.result ≡
    not (is_postponed g.board (joint_edge g.rows c.args.vertex c.args.slot).cover
    (get_or g.board.untils.items c.args.mark 0))) c.self.view_is here
