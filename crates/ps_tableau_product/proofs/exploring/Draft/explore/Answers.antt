use Rattle.std.proofs.Common.{◌≡◌, ◌<◌, ◌∷◌, [], Vec, ap, length, map, subst, sym, ◌∙◌}
use Rattle.std.specs.Global.{Global}
use Rattle.std.proofs.lemmas.List.{map-append}
use Rattle.ps_product.specs.Products.{ProductVertex}
use Rattle.ps_simulate.proofs.NamingLemmas.{some_same}
use Rattle.ps_tableau_product.specs.Inner.Exploring.{draft_data}
use Rattle.ps_tableau_product.specs.Plans.{scene_of}
use Rattle.ps_tableau_product.specs.declared.graph.Passage.{Passage}
use Rattle.ps_tableau_product.proofs.FairProducts.DraftLemmas.{circuit_steady}
use Rattle.ps_tableau_product.proofs.FairProducts.Drafts.{goes_one_on}
use Rattle.ps_tableau_product.proofs.exploring.Draft.explore.Goals as goal

pub returns-clause-goes_on : goal.returns-clause-goes_on
returns-clause-goes_on c =
    let made = c.in_ok-row.ensures.made in
    let same : c.requires.visited.at ≡ made.at =
    some_same c.requires.visited.at made.at (sym c.requires.visited.there ∙ made.there) in
    let explored = subst (λ (w : ProductVertex). w.state < length (draft_data c.args.self.now).states.edges) same
    c.requires.visited.covers in
    goes_one_on (circuit_steady (scene_of c.args.plan)) c.requires.explored made explored
    (ap (map (λ (row : Vec Passage Global). row.items)) c.in_ok-push.ensures.items
    ∙ map-append (λ (row : Vec Passage Global). row.items) c.row.new.self.rows.items (c.in_ok-row.row ∷ []))
