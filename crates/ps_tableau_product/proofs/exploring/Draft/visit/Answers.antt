use Rattle.std.proofs.Common.{ap, length, ◌∙◌}
use Rattle.ps_product.specs.Vertices.{product_vertex}
use Rattle.ps_tableau.proofs.BoardLemmas.{grows_trans}
use Rattle.ps_tableau_product.proofs.FairProducts.AddLemmas.{on_ok}
use Rattle.ps_tableau_product.proofs.exploring.Draft.visit.Goals as goal

pub view-requires-clause-latches : goal.view-requires-clause-latches
view-requires-clause-latches c =
    let proper = c.in_ok-reach.ensures.goes_on.explored.are_fit.each c.args.vertex (product_vertex c.vertex.result.now)
    c.vertex.ensures in
    ap length c.deref.ensures.value ∙ proper.wide

pub returns-clause-goes_on : goal.returns-clause-goes_on
returns-clause-goes_on c = on_ok c.explore.result c.explore.ensures.goes_on
    (λ on. record { explored = on.explored; grows = grows_trans c.in_ok-reach.ensures.goes_on.grows on.grows })
