use Rattle.std.proofs.Common.{◌≡◌, ℕ, Some, ap, arith, length, subst}
use Rattle.std.specs.List.{slice_get}
use Rattle.ps_product.specs.Inner.Exploring.{DraftData, IsExplored}
use Rattle.ps_product.specs.Inner.Plans.{setting_of}
use Rattle.ps_product.specs.Vertices.{product_vertex}
use Rattle.ps_product.proofs.exploring.Plan.search.Goals as goal

pub edges-requires-clause-proper : goal.edges-requires-clause-proper
edges-requires-clause-proper c =
    let v = product_vertex c.vertex.result.now in
    let i = c.loop-vertex.vertex in
    let at : slice_get c.loop-vertex.draft.vertices i ≡ Some v =
    subst (λ (d : DraftData). slice_get d.vertices i ≡ Some v) c.draft.view_is c.vertex.ensures in
    c.loop-vertex.invariant.explored.proper i v at

pub returns-clause-whole : goal.returns-clause-whole
returns-clause-whole c =
    let x = c.loop-vertex.invariant.explored in
    let draft = c.loop-vertex.draft in
    let view = ap (λ (d : DraftData). length d.vertices) c.draft.view_is in
    let past = c.loop-vertex-test.false in
    let all : c.loop-vertex.vertex ≡ length draft.vertices = omega (arith, x.within, c.len.ensures.len, view, past) in
    subst (λ (n : ℕ). IsExplored (setting_of c.args.self) draft n) all x
