use Rattle.std.proofs.Common.{◌≡◌, [], List, subst}
use Rattle.ps_product.specs.Numbers.{IsNumberOf}
use Rattle.ps_product.specs.Products.{ProductVertex}
use Rattle.ps_product.specs.Vertices.{product_vertex}
use Rattle.ps_product.proofs.ExploredProducts.ExploringLemmas.{only_first}
use Rattle.ps_tableau.proofs.BoardLemmas.{grows_refl}
use Rattle.ps_tableau_product.specs.Inner.Exploring.{first_of}
use Rattle.ps_tableau_product.specs.Plans.{scene_of}
use Rattle.ps_tableau_product.proofs.FairProducts.DraftLemmas.{draft_first}
use Rattle.ps_tableau_product.proofs.exploring.Draft.start.Goals as goal

pub returns : goal.returns
returns c =
    let blank = c.requires in
    let first = c.in_ok-first.ensures in
    let same : product_vertex c.in_ok-first.first ≡ first_of (scene_of c.args.plan) =
    λ i. record { latches = first.latches i; state = first.state i; priority = first.priority i } in
    let vertices =
    only_first (subst (λ (v : ProductVertex). IsNumberOf [] v c.in_ok-_number._number c.number.new.self) same
    (subst (λ (l : List ProductVertex).
    IsNumberOf l (product_vertex c.in_ok-first.first) c.in_ok-_number._number c.number.new.self)
    blank.vertices c.in_ok-_number.ensures.number)) in
    record {
      explored = draft_first {s = scene_of c.args.plan} blank.states blank.sets vertices blank.rows;
      grows = grows_refl c.args.self.now.states.tableau blank.states.board.sets;
    }
