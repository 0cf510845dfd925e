use Rattle.std.proofs.Common.{◌≡◌, arith, length, rules, subst, ◌∙◌}
use Rattle.ps_tableau.proofs.BoardLemmas.{grows_trans}
use Rattle.ps_tableau_product.specs.Inner.Exploring.{IsExplored, draft_data}
use Rattle.ps_tableau_product.specs.Plans.{scene_of}
use Rattle.ps_tableau_product.proofs.FairProducts.AddLemmas.{on_ok}
use Rattle.ps_tableau_product.proofs.FairProducts.DraftLemmas.{circuit_steady}
use Rattle.ps_tableau_product.proofs.FairProducts.Drafts.{ends_in}
use Rattle.ps_tableau_product.proofs.exploring.Draft.explore_all.Goals as goal

pub loop-vertex-init : goal.loop-vertex-init
loop-vertex-init c =
    record { goes_on = c.in_ok-start.ensures; evaluator = search rules; store = search rules }

pub loop-vertex-preserved : goal.loop-vertex-preserved
loop-vertex-preserved c =
    let before = c.loop-vertex.invariant in
    let e = c.in_ok-store.ensures in
    record {
      goes_on = record { explored = e.goes_on.explored; grows = grows_trans before.goes_on.grows e.goes_on.grows };
      evaluator = e.evaluator ∙ before.evaluator;
      store = e.store;
    }

pub reach_all-requires : goal.reach_all-requires
reach_all-requires c = c.loop-vertex.invariant.goes_on.explored.are_fit.states

pub returns : goal.returns
returns c =
    let on = c.loop-vertex.invariant.goes_on in
    let same : c.loop-vertex.vertex ≡ length c.loop-vertex.self.numbering =
    omega (arith, on.explored.within, c.loop-vertex-test.false, c.len.ensures.len) in
    let all = subst (IsExplored (scene_of c.args.plan) (draft_data c.loop-vertex.self)) same on.explored in
    on_ok c.reach_all.result c.reach_all.ensures
    (λ have. ends_in (circuit_steady (scene_of c.args.plan)) all on.grows have)
