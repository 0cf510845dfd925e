-- The edges of a vertex stay right while states and vertices are added.
use Rattle.std.proofs.Common.{◌≡◌, ◌⊎◌, ℕ, ◌+◌, ◌<◌, inl, inr, List, [], ◌∷◌, ◌++◌, length}
use Rattle.std.proofs.Common.{Some, suc, zero, sym, ap, subst, ◌∙◌, arith}
use Rattle.std.specs.List.{Contains, slice_get}
use Rattle.std.proofs.lemmas.Bool.{cases_lt}
use Rattle.std.proofs.lemmas.Option.{get_or_from_slice_get, slice_get_within}
use Rattle.ps_diagram.proofs.ClassesOfLetters.Distinct.{at_left}
use Rattle.ps_product.specs.Products.{ProductVertex}
use Rattle.ps_product.specs.Words.{HasGrown}
use Rattle.ps_product.proofs.ExploredProducts.WordNumbers.{grown_none, still_there}
use Rattle.ps_simulate.proofs.NamingLemmas.{some_same}
use Rattle.ps_tableau.specs.declared.edge.Edge.{Edge}
use Rattle.ps_tableau_product.specs.Inner.Rows.{HasEachStep, IsPassage, IsRow, IsRowUpTo, LeadsBy, covers_at}
use Rattle.ps_tableau_product.specs.Inner.States.{AreStates, StatesData, StatesGrow}
use Rattle.ps_tableau_product.specs.Plans.{Scene}
use Rattle.ps_tableau_product.specs.declared.graph.Passage.{Passage}
use Rattle.ps_tableau_product.proofs.TableauStates.StateLemmas.{edges_kept, serves_same}

pub found_in : {X : Type 0} (xs : List X) (i : ℕ) (x : X) → slice_get xs i ≡ Some x → Contains xs x
found_in xs i x at = (i, slice_get_within xs i x at, get_or_from_slice_get xs i x x at)

-- ## States and vertices grow

module _ (s : Scene) {old new : StatesData} {before after : List ProductVertex} (v : ProductVertex)
    (are : AreStates old) (grow : StatesGrow old new) (more : HasGrown before after)
    (explored : v.state < length old.edges) where
  covers_same : covers_at new v ≡ covers_at old v
  covers_same = edges_kept grow.edges explored

  passage_kept : (x : Passage) (w : ProductVertex) → IsPassage s old v x w → IsPassage s new v x w
  passage_kept x w p = record {
    outputs = p.outputs;
    whole = p.whole;
    steps = p.steps;
    is_letter = p.is_letter;
    known = subst (λ (l : List Edge). Contains l x.cover) (sym covers_same) p.known;
    serves = serves_same are grow.board v.state explored x.cover p.known p.whole ∙ p.serves;
    to = still_there w.state grow.sets p.to;
  }

  pub leads_kept : (x : Passage) → LeadsBy s old before v x → LeadsBy s new after v x
  leads_kept x l = record {
    to = l.to;
    stands = still_there x.to more l.stands;
    is_passage = passage_kept x l.to l.is_passage;
  }

  pub each_kept : {row made : List Passage} (cover : Edge) → HasGrown row made → Contains (covers_at old v) cover →
      HasEachStep s old before v row cover → HasEachStep s new after v made cover
  each_kept {row} {made} cover longer known each m letter next at steps is_letter serves =
      let h = each m letter next at steps is_letter
      (sym (serves_same are grow.board v.state explored cover known letter) ∙ serves) in
      record {
        place = h.place;
        passage = h.passage;
        there = still_there h.place longer h.there;
        cover_is = h.cover_is;
        to = h.to;
        stands = still_there h.passage.to more h.stands;
        latches_are = h.latches_are;
      }

  pub row_kept : {row : List Passage} {done : ℕ} → IsRowUpTo s old before v row done →
      IsRowUpTo s new after v row done
  row_kept {row} {done} is = record {
    lead = λ k x at. leads_kept x (is.lead k x at);
    whole = λ i cover lt at.
        let here : slice_get (covers_at old v) i ≡ Some cover =
        subst (λ (l : List Edge). slice_get l i ≡ Some cover) covers_same at in
        each_kept cover (grown_none row) (found_in (covers_at old v) i cover here) (is.whole i cover lt here);
  }

  pub whole_row_kept : {row : List Passage} → IsRow s old before v row → IsRow s new after v row
  whole_row_kept {row} is =
      subst (λ (l : List Edge). IsRowUpTo s new after v row (length l)) (sym covers_same) (row_kept is)

-- ## One cover more

-- an entry of a list to which others were appended is an old one or one of those
pub old_or_more : {X : Type 0} (xs ys : List X) (k : ℕ) (x : X) → slice_get (xs ++ ys) k ≡ Some x →
    (slice_get xs k ≡ Some x) ⊎ ((j : ℕ) × (slice_get ys j ≡ Some x))
old_or_more [] ys k x at = inr (k, at)
old_or_more (z ∷ xs) ys zero x at = inl at
old_or_more (z ∷ xs) ys (suc k) x at = old_or_more xs ys k x at

pub at_right : {X : Type 0} (xs ys : List X) (k : ℕ) (x : X) → slice_get ys k ≡ Some x →
    (j : ℕ) × (slice_get (xs ++ ys) j ≡ Some x)
at_right [] ys k x at = (k, at)
at_right (z ∷ xs) ys k x at = let r = at_right xs ys k x at in (suc r.0, r.1)

module _ {s : Scene} {st : StatesData} {vertices : List ProductVertex} {v : ProductVertex} {row made : List Passage}
    {done : ℕ} (more : List Passage) (is : IsRowUpTo s st vertices v row done) (e : made ≡ row ++ more)
    (lead : (k : ℕ) (x : Passage) → slice_get more k ≡ Some x → LeadsBy s st vertices v x) where
  lead_now : (k : ℕ) (x : Passage) → slice_get made k ≡ Some x → LeadsBy s st vertices v x
  lead_now k x at =
      elim (old_or_more row more k x (subst (λ (l : List Passage). slice_get l k ≡ Some x) e at)) [
        | inl old ↦ is.lead k x old
        | inr new_one ↦ lead new_one.0 x new_one.1
      ]

  longer : (cover : Edge) → HasEachStep s st vertices v row cover → HasEachStep s st vertices v made cover
  longer cover each m letter next at steps is_letter serves =
      let h = each m letter next at steps is_letter serves in
      record {
        place = h.place;
        passage = h.passage;
        there = subst (λ (l : List Passage). slice_get l h.place ≡ Some h.passage) (sym e)
            (at_left row more h.place h.there);
        cover_is = h.cover_is;
        to = h.to;
        stands = h.stands;
        latches_are = h.latches_are;
      }

  pub row_more : (cover : Edge) → slice_get (covers_at st v) done ≡ Some cover →
      HasEachStep s st vertices v made cover → IsRowUpTo s st vertices v made (done + 1)
  row_more cover here each = record {
    lead = lead_now;
    whole = λ i other lt at. elim (cases_lt i done) [
      | inl below ↦ longer other (is.whole i other below at)
      | inr above ↦
          let same : i ≡ done = omega (arith, lt, above) in
          let one : cover ≡ other =
          some_same cover other (sym here ∙ ap (slice_get (covers_at st v)) (sym same) ∙ at) in
          subst (HasEachStep s st vertices v made) one each
    ];
  }
