-- The edges of a vertex of the product with an automaton stay right while states and vertices are added.
use Rattle.std.proofs.Common.{◌≡◌, ℕ, ◌+◌, ◌<◌, inl, inr, List, ◌++◌, length, Some, sym, ap, subst}
use Rattle.std.proofs.Common.{◌∙◌, arith}
use Rattle.std.specs.List.{Contains, slice_get}
use Rattle.std.proofs.lemmas.Bool.{cases_lt}
use Rattle.ps_product.specs.Words.{HasGrown}
use Rattle.ps_product.proofs.ExploredProducts.WordNumbers.{grown_none, still_there}
use Rattle.ps_simulate.proofs.NamingLemmas.{some_same}
use Rattle.ps_tableau.specs.declared.edge.Edge.{Edge}
use Rattle.ps_tableau_product.specs.Inner.Joining.{HasEachJoint, HasJointPassage, IsJointRow, IsJointRowUpTo}
use Rattle.ps_tableau_product.specs.Inner.Joining.{LeadsJointly, Pairing, joint_covers}
use Rattle.ps_tableau_product.specs.Inner.States.{AreStates, StatesData, StatesGrow}
use Rattle.ps_tableau_product.specs.declared.joint.JointEdge.{JointEdge}
use Rattle.ps_tableau_product.proofs.FairProducts.RowLemmas.{found_in, old_or_more}
use Rattle.ps_tableau_product.proofs.TableauStates.StateLemmas.{edges_kept, serves_same}

-- ## States and vertices grow

passage_kept : {s : Pairing} {before after : List (ℕ × ℕ)} {row made : List JointEdge} {v : ℕ × ℕ} {cover : Edge}
    {letter : ℕ} → HasGrown before after → HasGrown row made → HasJointPassage s before row v cover letter →
    HasJointPassage s after made v cover letter
passage_kept more longer h = record {
  place = h.place;
  passage = h.passage;
  there = still_there h.place longer h.there;
  cover_is = h.cover_is;
  to = h.to;
  stands = still_there h.passage.to more h.stands;
  own = h.own;
  priority = h.priority;
}

module _ (s : Pairing) {old new : StatesData} {before after : List (ℕ × ℕ)} (v : ℕ × ℕ) (are : AreStates old)
    (grow : StatesGrow old new) (more : HasGrown before after) (explored : v.1 < length old.edges) where
  covers_same : joint_covers new v ≡ joint_covers old v
  covers_same = edges_kept grow.edges explored

  pub lead_kept : (x : JointEdge) → LeadsJointly s old before v x → LeadsJointly s new after v x
  lead_kept x l = record {
    to = l.to;
    stands = still_there x.to more l.stands;
    low = l.low;
    own = l.own;
    priority = l.priority;
    known = subst (λ (es : List Edge). Contains es x.cover) (sym covers_same) l.known;
    serves = serves_same are grow.board v.1 explored x.cover l.known x.letter ∙ l.serves;
    next = still_there l.to.1 grow.sets l.next;
  }

  pub each_joint_kept : {row made : List JointEdge} (cover : Edge) → HasGrown row made →
      Contains (joint_covers old v) cover → HasEachJoint s old before v row cover →
      HasEachJoint s new after v made cover
  each_joint_kept cover longer known each letter low serves =
      passage_kept more longer (each letter low (sym (serves_same are grow.board v.1 explored cover known letter)
      ∙ serves))

  pub joint_row_kept : {row : List JointEdge} {done : ℕ} → IsJointRowUpTo s old before v row done →
      IsJointRowUpTo s new after v row done
  joint_row_kept {row} {done} is = record {
    lead = λ k x at. lead_kept x (is.lead k x at);
    whole = λ i cover lt at.
        let here : slice_get (joint_covers old v) i ≡ Some cover =
        subst (λ (l : List Edge). slice_get l i ≡ Some cover) covers_same at in
        each_joint_kept cover (grown_none row) (found_in (joint_covers old v) i cover here) (is.whole i cover lt here);
  }

  pub whole_joint_kept : {row : List JointEdge} → IsJointRow s old before v row → IsJointRow s new after v row
  whole_joint_kept {row} is =
      subst (λ (l : List Edge). IsJointRowUpTo s new after v row (length l)) (sym covers_same) (joint_row_kept is)

-- ## One cover more

module _ {s : Pairing} {st : StatesData} {vertices : List (ℕ × ℕ)} {v : ℕ × ℕ} {row made : List JointEdge} {done : ℕ}
    (more : List JointEdge) (is : IsJointRowUpTo s st vertices v row done) (e : made ≡ row ++ more)
    (lead : (k : ℕ) (x : JointEdge) → slice_get more k ≡ Some x → LeadsJointly s st vertices v x) where
  lead_now : (k : ℕ) (x : JointEdge) → slice_get made k ≡ Some x → LeadsJointly s st vertices v x
  lead_now k x at =
      elim (old_or_more row more k x (subst (λ (l : List JointEdge). slice_get l k ≡ Some x) e at)) [
        | inl old ↦ is.lead k x old
        | inr new_one ↦ lead new_one.0 x new_one.1
      ]

  longer : (cover : Edge) → HasEachJoint s st vertices v row cover → HasEachJoint s st vertices v made cover
  longer cover each letter low serves =
      passage_kept (grown_none vertices) (record { more = more; is = e }) (each letter low serves)

  pub joint_row_more : (cover : Edge) → slice_get (joint_covers st v) done ≡ Some cover →
      HasEachJoint s st vertices v made cover → IsJointRowUpTo s st vertices v made (done + 1)
  joint_row_more cover here each = record {
    lead = lead_now;
    whole = λ i other lt at. elim (cases_lt i done) [
      | inl below ↦ longer other (is.whole i other below at)
      | inr above ↦
          let same : i ≡ done = omega (arith, lt, above) in
          let one : cover ≡ other =
          some_same cover other (sym here ∙ ap (slice_get (joint_covers st v)) (sym same) ∙ at) in
          subst (HasEachJoint s st vertices v made) one each
    ];
  }
