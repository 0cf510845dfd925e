use Rattle.std.proofs.Common.{arith}
use Rattle.ps_product.specs.Vertices.{product_vertex}
use Rattle.ps_tableau_product.specs.Plans.{scene_of}
use Rattle.ps_tableau_product.proofs.FairProducts.AddLemmas.{on_ok}
use Rattle.ps_tableau_product.proofs.FairProducts.DraftLemmas.{circuit_steady}
use Rattle.ps_tableau_product.proofs.FairProducts.Drafts.{goes_on}
use Rattle.ps_tableau_product.proofs.exploring.Draft.reach.Goals as goal

pub reach-requires-clause-count : goal.reach-requires-clause-count
reach-requires-clause-count c =
    let v = product_vertex c.vertex.result.now in
    let proper = c.requires.explored.are_fit.each c.args.vertex v c.vertex.ensures in
    omega (arith, proper.state)

pub returns-clause-goes_on : goal.returns-clause-goes_on
returns-clause-goes_on c = on_ok c.reach.result c.reach.ensures.more
    (λ more. goes_on (circuit_steady (scene_of c.args.plan)) c.requires.explored more)
