use Rattle.std.proofs.Common.{◌∷◌, [], ap, arith, ◌∙◌, ℕ}
use Rattle.ps_tableau.proofs.BoardLemmas.{grows_refl}
use Rattle.ps_tableau_product.specs.Inner.Joining.{pairing_of}
use Rattle.ps_tableau_product.proofs.JointProducts.JointAdds.{first_placed}
use Rattle.ps_tableau_product.proofs.JointProducts.JointDrafts.{joint_first}
use Rattle.ps_tableau_product.proofs.joining.JointDraft.start.Goals as goal

pub returns : goal.returns
returns c =
    let blank = c.requires in
    let start = c.start.ensures in
    let placed = first_placed _ _ _ c.in_ok-_first._first blank.vertices c.in_ok-_first.ensures.0 in
    record {
      explored = joint_first {s = pairing_of c.args.plan} (omega (arith, start.start, start.state)) blank.states
          blank.sets (placed ∙ ap (λ (q : ℕ). (q, 0) ∷ []) start.start) blank.rows;
      grows = grows_refl c.args.self.now.states.tableau blank.states.board.sets;
    }
