use Rattle.std.proofs.Common.{◌≡◌, ◌<◌, List, Some, Vec, [], ap, arith, get_or, length, map, not, subst, sym, ◌∙◌}
use Rattle.std.specs.Global.{Global}
use Rattle.std.specs.Prelude.{Contains, slice_get}
use Rattle.std.proofs.lemmas.List.{get_or-map, get_or_default, length-map}
use Rattle.std.proofs.lemmas.List.Elements.{Contains-get_or}
use Rattle.std.proofs.lemmas.Option.{slice_get-get_or}
use Rattle.ps_tableau.specs.Boards.{IsEdgeOf}
use Rattle.ps_tableau_product.specs.Graphs.{GraphData, is_postponed, no_passage, passage_at, passage_row}
use Rattle.ps_tableau_product.specs.declared.graph.Passage.{Passage}
use Rattle.ps_tableau_product.proofs.FairProducts.GraphLemmas.{postponed_is}
use Rattle.ps_tableau_product.proofs.graph.ModelGraphMarked.has_mark.Goals as goal
use Rattle.ps_tableau_product.proofs.graph.ModelGraphMarked.has_mark.Goals.{After-postpones}

abbrev rows_in : After-postpones → List (List Passage)
rows_in c = map (λ (row : Vec Passage Global). row.items) c.self.inside.rows.items

vertex_low : (c : After-postpones) → c.args.vertex < length c.self.inside.rows.items
vertex_low c = omega (
  arith,
  length-map c.self.inside.rows.items (λ (row : Vec Passage Global). row.items),
  ap (λ (g : GraphData). length g.rows) c.self.view_is,
  c.requires.vertex,
)

row_is : (c : After-postpones) → passage_row (rows_in c) c.args.vertex ≡ c.index.result.now.items
row_is c =
    get_or-map (λ (row : Vec Passage Global). row.items) c.self.inside.rows.items c.args.vertex c.index.result.now []
    (vertex_low c) ∙ ap (λ (row : Vec Passage Global). row.items) (sym c.index.ensures)

slot_low : (c : After-postpones) → c.args.slot < length (passage_row (rows_in c) c.args.vertex)
slot_low c = omega (
  arith,
  ap (λ (g : GraphData). length (passage_row g.rows c.args.vertex)) c.self.view_is,
  c.requires.slot,
)

passage_is : (c : After-postpones) → passage_at (rows_in c) c.args.vertex c.args.slot ≡ c.index-2.result.now
passage_is c =
    let low = slot_low c in
    let there = row_is c in
    ap (λ (l : List Passage). get_or l c.args.slot no_passage) there
    ∙ get_or_default c.index.result.now.items c.args.slot no_passage c.index-2.result.now
    (subst (λ (l : List Passage). c.args.slot < length l) there low) ∙ sym c.index-2.ensures

held : (c : After-postpones) → IsEdgeOf c.self.inside.tableau c.index-2.result.now.cover
held c =
    let at : slice_get (passage_row (rows_in c) c.args.vertex) c.args.slot ≡ Some c.index-2.result.now =
    slice_get-get_or (passage_row (rows_in c) c.args.vertex) c.args.slot no_passage (slot_low c)
    ∙ ap (λ (x : Passage). Some x) (passage_is c) in
    c.self.invariant.held c.args.vertex c.args.slot c.index-2.result.now at

pub returns : goal.returns
returns c =
    let at = (goal.at.returns c).After-postpones in
    let b = c.self.inside.tableau in
    let cover = c.index-2.result.now.cover in
    let until = get_or b.untils.items c.args.mark 0 in
    let mark_low : c.args.mark < length b.untils.items =
    omega (arith, ap (λ (g : GraphData). length g.board.untils.items) c.self.view_is, c.requires.mark) in
    let known : Contains b.untils.items until = Contains-get_or b.untils.items c.args.mark 0 mark_low in
    let told = rw c.untils.ensures at c.postpones.ensures in
    let is = postponed_is cover.postponed until c.self.invariant.board_is (held at).postponed known c.postpones.result
    told in
    let here : not c.postpones.result ≡
    not (is_postponed b (passage_at (rows_in at) c.args.vertex c.args.slot).cover until) =
    ap not (is ∙ ap (λ (x : Passage). is_postponed b x.cover until) (sym (passage_is at))) in
    subst (λ (g : GraphData). not c.postpones.result ≡
    not (is_postponed g.board (passage_at g.rows c.args.vertex c.args.slot).cover
    (get_or g.board.untils.items c.args.mark 0))) c.self.view_is here
