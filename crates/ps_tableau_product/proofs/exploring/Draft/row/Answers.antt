use Rattle.std.proofs.Common.{◌≡◌, ◌<◌, List, Some, Vec, ap, arith, get_or, length, subst, sym, ◌∙◌}
use Rattle.std.specs.Global.{Global}
use Rattle.std.specs.List.{slice_get}
use Rattle.std.proofs.lemmas.List.{length-map}
use Rattle.std.proofs.lemmas.Option.{slice_get-get_or}
use Rattle.ps_product.specs.Products.{ProductVertex}
use Rattle.ps_product.specs.Vertices.{product_vertex}
use Rattle.ps_product.proofs.ExploredProducts.WordNumbers.{still_there}
use Rattle.ps_simulate.proofs.NamingLemmas.{some_same}
use Rattle.ps_tableau.specs.declared.edge.Edge.{Edge}
use Rattle.ps_tableau_product.specs.BoardStates.{edges_of_state}
use Rattle.ps_tableau_product.specs.Inner.Exploring.{draft_data}
use Rattle.ps_tableau_product.specs.Inner.Rows.{covers_at}
use Rattle.ps_tableau_product.proofs.FairProducts.DraftLemmas.{made_more}
use Rattle.ps_tableau_product.proofs.exploring.Draft.row.Goals as goal

pub edges-requires : goal.edges-requires
edges-requires c =
    let inv = c.loop-k.invariant in
    let v = product_vertex c.vertex.result.now in
    let same : inv.visited.at ≡ v = some_same inv.visited.at v
    (sym inv.visited.there ∙ still_there c.args.vertex inv.made.adds.vertices.grown c.vertex.ensures) in
    let covers = subst (λ (w : ProductVertex). w.state < length (draft_data c.loop-k.self).states.edges) same
    inv.visited.covers in
    omega (arith, covers, length-map c.loop-k.self.states.edges.items (λ (row : Vec Edge Global). row.items))

pub loop-k-preserved : goal.loop-k-preserved
loop-k-preserved c =
    let inv = c.loop-k.invariant in
    let is = inv.made in
    let k = c.loop-k.k in
    let state = c.vertex.result.now.state in
    let same : is.at ≡ product_vertex c.vertex.result.now =
    some_same is.at (product_vertex c.vertex.result.now) (sym is.there ∙ c.vertex.ensures) in
    let visited : c.requires.at ≡ is.at = some_same c.requires.at is.at (sym c.requires.there ∙ is.there) in
    let explored = subst (λ (w : ProductVertex). w.state < length (draft_data c.args.self.now).states.edges) visited
    c.requires.covers in
    let now = (draft_data c.loop-k.self).states in
    let before = (draft_data c.args.self.now).states in
    let kept : edges_of_state now.edges state ≡ edges_of_state before.edges state =
    ap (λ (es : List (List Edge)). edges_of_state es state) is.adds.edges in
    let low : k < length (edges_of_state now.edges state) =
    omega (arith, c.loop-k-test.true, ap length c.edges-k-end.ensures, ap length kept) in
    let cover = c.index-edges-k.result in
    let read : get_or (edges_of_state now.edges state) k cover ≡ cover =
    ap (λ (l : List Edge). get_or l k cover) (sym c.edges.ensures) ∙ sym c.index-edges-k.is in
    let there : slice_get (edges_of_state now.edges state) k ≡ Some cover =
    slice_get-get_or (edges_of_state now.edges state) k cover low ∙ ap (λ (e : Edge). Some e) read in
    let here : slice_get (covers_at now is.at) k ≡ Some cover =
    subst (λ (w : ProductVertex). slice_get (covers_at now w) k ≡ Some cover) (sym same) there in
    record {
      made = made_more is c.in_ok-add.ensures.adds explored here;
      visited = c.in_ok-add.ensures.visited;
    }
