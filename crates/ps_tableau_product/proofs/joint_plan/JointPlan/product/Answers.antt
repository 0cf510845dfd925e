use Rattle.std.proofs.Common.{subst, sym}
use Rattle.ps_tableau.specs.Boards.{IsTableauOf}
use Rattle.ps_tableau.specs.declared.board.Board.{Board}
use Rattle.ps_tableau_product.proofs.TableauStates.StateLemmas.{tableau_of_kept}
use Rattle.ps_tableau_product.proofs.joint_plan.JointPlan.product.Goals as goal

pub into_graph-requires : goal.into_graph-requires
into_graph-requires c = c.in-Ok.ensures.whole

pub returns-in-Ok : goal.returns-in-Ok
returns-in-Ok c = λ f is_of.
    let here = subst (λ (b : Board). IsTableauOf b f) (sym c.in_ok-draft.ensures.board) is_of in
    c.into_graph.ensures f (tableau_of_kept f c.in-Ok.ensures.grows here)
