use Rattle.std.proofs.Common.{◌≡◌, ◌<◌, List, Some, Vec, ap, arith, get_or, length, subst, sym, ◌∙◌}
use Rattle.std.specs.Global.{Global}
use Rattle.std.specs.List.{slice_get}
use Rattle.std.proofs.lemmas.List.{length-map}
use Rattle.std.proofs.lemmas.Option.{slice_get-get_or}
use Rattle.ps_tableau.specs.declared.edge.Edge.{Edge}
use Rattle.ps_tableau_product.specs.BoardStates.{edges_of_state}
use Rattle.ps_tableau_product.specs.Inner.Joining.{IsJointMadeUpTo, joint_draft, pairing_of, visited}
use Rattle.ps_tableau_product.specs.declared.joint.JointEdge.{JointEdge}
use Rattle.ps_tableau_product.proofs.JointProducts.JointDrafts.{joint_made_more, joint_made_none}
use Rattle.ps_tableau_product.proofs.joining.JointDraft.row.Goals as goal

pub loop-k-init : goal.loop-k-init
loop-k-init c = record {
  made = subst (λ (row : List JointEdge). IsJointMadeUpTo (pairing_of c.args.plan) (joint_draft c.args.self.now)
      (joint_draft c.args.self.now) (visited c.args.visit.now) row 0) (sym c.new-row.ensures.items)
      (joint_made_none c.requires.paired (visited c.args.visit.now));
  visit = c.requires;
}

pub edges-requires : goal.edges-requires
edges-requires c =
    let covers = c.loop-k.invariant.visit.covers in
    omega (arith, covers, length-map c.loop-k.self.states.edges.items (λ (row : Vec Edge Global). row.items))

pub loop-k-preserved : goal.loop-k-preserved
loop-k-preserved c =
    let inv = c.loop-k.invariant in
    let k = c.loop-k.k in
    let state = c.args.visit.now.state in
    let now = (joint_draft c.loop-k.self).states in
    let before = (joint_draft c.args.self.now).states in
    let add = c.in_ok-add.ensures in
    let kept : edges_of_state now.edges state ≡ edges_of_state before.edges state =
    ap (λ (es : List (List Edge)). edges_of_state es state) inv.made.adds.edges in
    let low : k < length (edges_of_state now.edges state) =
    omega (arith, c.loop-k-test.true, ap length c.edges-k-end.ensures, ap length kept) in
    let cover = c.index-edges-k.result in
    let read : get_or (edges_of_state now.edges state) k cover ≡ cover =
    ap (λ (l : List Edge). get_or l k cover) (sym c.edges.ensures) ∙ sym c.index-edges-k.is in
    let there : slice_get (edges_of_state now.edges state) k ≡ Some cover =
    slice_get-get_or (edges_of_state now.edges state) k cover low ∙ ap (λ (e : Edge). Some e) read in
    record {
      made = joint_made_more inv.made add.adds c.requires.covers there;
      visit = record {
        paired = add.adds.adds.are_fit;
        own = inv.visit.own;
        covers = subst (λ (es : List (List Edge)). state < length es) (sym add.adds.adds.edges) inv.visit.covers;
        alphabet = add.alphabet;
      };
    }
