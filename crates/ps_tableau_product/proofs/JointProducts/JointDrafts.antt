-- The product with an automaton while its vertices are explored, one after another.
use Rattle.std.proofs.Common.{◌≡◌, ℕ, ◌+◌, ◌<◌, ◌≤◌, List, [], ◌∷◌, length}
use Rattle.std.proofs.Common.{Some, ap, ◌∙◌, arith, length-append}
use Rattle.std.specs.List.{slice_get}
use Rattle.std.proofs.lemmas.Option.{slice_get_within}
use Rattle.ps_product.specs.Words.{HasGrown}
use Rattle.ps_tableau.specs.declared.edge.Edge.{Edge}
use Rattle.ps_tableau_product.specs.Inner.Joining.{AddsJointCover, ArePaired, IsJointExplored, IsJointMadeUpTo}
use Rattle.ps_tableau_product.specs.Inner.Joining.{IsPaired}
use Rattle.ps_tableau_product.specs.Inner.Joining.{JointDraftData, Pairing, joint_covers, pair_kind}
use Rattle.ps_tableau_product.specs.Inner.States.{AreStates, StatesData}
use Rattle.ps_tableau_product.specs.declared.joint.JointEdge.{JointEdge}
use Rattle.ps_tableau_product.proofs.FairProducts.Drafts.{IsSteady, adds_grow, adds_none, adds_on, explored_first}
use Rattle.ps_tableau_product.proofs.FairProducts.Drafts.{same_covers}
use Rattle.ps_tableau_product.proofs.FairProducts.Drafts.{still_explored}
use Rattle.ps_tableau_product.proofs.JointProducts.JointRows.{joint_row_kept, joint_row_more, whole_joint_kept}

-- ## Vertices

pub paired_more : {s : Pairing} {old new : StatesData} → HasGrown old.sets new.sets → (v : ℕ × ℕ) →
    IsPaired s old v → IsPaired s new v
paired_more {s} {old} {new} grown v is = record {
  own = is.own;
  state = omega (arith, is.state, ap length grown.is, length-append old.sets grown.more);
}

pub pair_steady : (s : Pairing) → IsSteady (pair_kind s)
pair_steady s = record {
  fits_more = λ old new v grown is. paired_more grown v is;
  row_kept = λ old new before after v row are grow more explored is. whole_joint_kept s v are grow more explored is;
}

-- ## One cover after another

pub joint_made_none : {s : Pairing} {d : JointDraftData} → ArePaired s d → (v : ℕ × ℕ) →
    IsJointMadeUpTo s d d v [] 0
joint_made_none {s} {d} are v = record {
  adds = adds_none [] are;
  made = record {
    lead = λ k x at. absurd (omega (arith, slice_get_within [] k x at));
    whole = λ i cover lt at. absurd (omega (arith, lt));
  };
}

module _ {s : Pairing} {base old new : JointDraftData} {v : ℕ × ℕ} {cover : Edge} {row made : List JointEdge} {done : ℕ}
    (is : IsJointMadeUpTo s base old v row done) (adds : AddsJointCover s old new v cover row made)
    (explored : v.1 < length base.states.edges) where
  pub joint_made_more : slice_get (joint_covers old.states v) done ≡ Some cover →
      IsJointMadeUpTo s base new v made (done + 1)
  joint_made_more here =
      let grow = adds_grow is.adds.are_fit.states adds.adds in
      let kept = joint_row_kept s v is.adds.are_fit.states grow adds.adds.vertices.grown
      (still_explored is.adds explored) is.made in
      let there : slice_get (joint_covers new.states v) done ≡ Some cover =
      ap (λ (l : List Edge). slice_get l done) (same_covers v.1 adds.adds) ∙ here in
      record {
        adds = adds_on adds.more adds.made_is is.adds adds.adds;
        made = joint_row_more adds.more kept adds.made_is adds.lead cover there adds.whole;
      }

-- ## The first vertex

pub joint_first : {s : Pairing} {d : JointDraftData} → s.own.start ≤ s.own.states → AreStates d.states →
    d.states.sets ≡ d.states.board.initial ∷ [] → d.vertices ≡ (s.own.start, 0) ∷ [] → d.rows ≡ [] →
    IsJointExplored s d 0
joint_first {s} {d} low are sets all rows = explored_first are sets all rows (record {
  own = low;
  state = omega (arith, ap (λ (l : List ℕ). length l) sets);
})
