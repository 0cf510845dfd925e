use Rattle.std.proofs.Common.{◌≡◌, arith, length, subst}
use Rattle.ps_tableau.proofs.BoardLemmas.{grows_trans}
use Rattle.ps_tableau_product.specs.Inner.Joining.{IsJointExplored, joint_draft, pairing_of}
use Rattle.ps_tableau_product.proofs.FairProducts.AddLemmas.{on_ok}
use Rattle.ps_tableau_product.proofs.FairProducts.Drafts.{ends_in}
use Rattle.ps_tableau_product.proofs.JointProducts.JointDrafts.{pair_steady}
use Rattle.ps_tableau_product.proofs.joining.JointDraft.explore_all.Goals as goal

pub loop-vertex-init : goal.loop-vertex-init
loop-vertex-init c =
    let on = c.in_ok-start.ensures in
    let board = on.explored.are_fit.states.board in
    record {
      goes_on = on;
      alphabet = c.in_ok-alphabet.ensures c.start.new.self.states.tableau.guards board.propositions;
    }

pub loop-vertex-preserved : goal.loop-vertex-preserved
loop-vertex-preserved c =
    let before = c.loop-vertex.invariant in
    let e = c.in_ok-visit.ensures in
    record {
      goes_on = record { explored = e.goes_on.explored; grows = grows_trans before.goes_on.grows e.goes_on.grows };
      alphabet = e.alphabet;
    }

pub reach_all-requires : goal.reach_all-requires
reach_all-requires c = c.loop-vertex.invariant.goes_on.explored.are_fit.states

pub returns : goal.returns
returns c =
    let on = c.loop-vertex.invariant.goes_on in
    let same : c.loop-vertex.vertex ≡ length c.loop-vertex.self.vertices =
    omega (arith, on.explored.within, c.loop-vertex-test.false, c.len.ensures.value) in
    let all = subst (IsJointExplored (pairing_of c.args.plan) (joint_draft c.loop-vertex.self)) same on.explored in
    on_ok c.reach_all.result c.reach_all.ensures
    (λ have. ends_in (pair_steady (pairing_of c.args.plan)) all on.grows have)
