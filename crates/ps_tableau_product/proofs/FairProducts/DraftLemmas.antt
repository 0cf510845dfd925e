-- The product while its vertices are explored, one after another.
use Rattle.std.proofs.Common.{◌≡◌, ℕ, ◌+◌, ◌<◌, inl, inr, Bool, List, [], ◌∷◌, length}
use Rattle.std.proofs.Common.{Some, sym, ap, subst, ◌∙◌, arith, length-append}
use Rattle.std.specs.List.{slice_get}
use Rattle.std.proofs.lemmas.List.{length-map}
use Rattle.std.proofs.lemmas.Option.{slice_get_within}
use Rattle.ps_circuit.specs.declared.parts.Latch.{Latch}
use Rattle.ps_circuit.specs.Values.{bit_of}
use Rattle.ps_product.specs.Products.{ProductVertex}
use Rattle.ps_product.specs.Words.{HasGrown}
use Rattle.ps_product.proofs.ExploredProducts.WordNumbers.{still_there}
use Rattle.ps_simulate.proofs.NamingLemmas.{some_same}
use Rattle.ps_tableau.specs.declared.edge.Edge.{Edge}
use Rattle.ps_tableau_product.specs.Inner.Exploring.{AddsCover, AreProper, DraftData, IsExplored, IsMadeUpTo, IsProper}
use Rattle.ps_tableau_product.specs.Inner.Exploring.{circuit_kind, first_of}
use Rattle.ps_tableau_product.specs.Inner.Rows.{HasEachStep, LeadsBy, VerticesGrow, covers_at}
use Rattle.ps_tableau_product.specs.Inner.States.{AreStates, StatesData}
use Rattle.ps_tableau_product.specs.Plans.{Scene}
use Rattle.ps_tableau_product.specs.declared.graph.Passage.{Passage}
use Rattle.ps_tableau_product.proofs.FairProducts.Drafts.{IsSteady, adds_grow, adds_none, adds_on, explored_first}
use Rattle.ps_tableau_product.proofs.FairProducts.Drafts.{same_covers}
use Rattle.ps_tableau_product.proofs.FairProducts.Drafts.{still_explored}
use Rattle.ps_tableau_product.proofs.FairProducts.RowLemmas.{row_kept, row_more, whole_row_kept}

-- ## Proper vertices

pub proper_more : {s : Scene} {old new : StatesData} → HasGrown old.sets new.sets → (v : ProductVertex) →
    IsProper s old v → IsProper s new v
proper_more {s} {old} {new} grown v is = record {
  wide = is.wide;
  state = omega (arith, is.state, ap length grown.is, length-append old.sets grown.more);
}

-- the vertex to which an edge leads
pub led_proper : {s : Scene} {st : StatesData} {vertices : List ProductVertex} {v : ProductVertex} {x : Passage} →
    (l : LeadsBy s st vertices v x) → IsProper s st l.to
led_proper {s} {st} l = record {
  wide = ap (λ (bs : List Bool). length bs) l.is_passage.steps.next_are
      ∙ length-map s.circuit.latches (λ (y : Latch). bit_of l.is_passage.steps.values y.next);
  state = slice_get_within st.sets l.to.state _ l.is_passage.to;
}

-- the vertices are proper after some were added to which the edges of a row lead
pub proper_now : {s : Scene} {old : DraftData} (new : DraftData) {v : ProductVertex} {row : List Passage} →
    AreProper s old →
    HasGrown old.states.sets new.states.sets → VerticesGrow old.vertices new.vertices row →
    ((k : ℕ) (x : Passage) → slice_get row k ≡ Some x → LeadsBy s new.states new.vertices v x) →
    (i : ℕ) (w : ProductVertex) → slice_get new.vertices i ≡ Some w → IsProper s new.states w
proper_now {s} {old} new are sets vertices lead i w at = elim (vertices.from i w at) [
  | inl before ↦ proper_more sets w (are.each i w before)
  | inr led ↦
      let l = lead led.0 led.1 led.2 in
      let same : l.to ≡ w =
      some_same l.to w (sym l.stands ∙ ap (slice_get new.vertices) led.3 ∙ at) in
      subst (IsProper s new.states) same (led_proper l)
]

pub circuit_steady : (s : Scene) → IsSteady (circuit_kind s)
circuit_steady s = record {
  fits_more = λ old new v grown is. proper_more grown v is;
  row_kept = λ old new before after v row are grow more explored is. whole_row_kept s v are grow more explored is;
}

-- ## One cover after another

pub made_none : {s : Scene} {d : DraftData} {vertex : ℕ} → AreProper s d → (v : ProductVertex) →
    slice_get d.vertices vertex ≡ Some v → IsMadeUpTo s d d vertex [] 0
made_none {s} {d} are v there = record {
  adds = adds_none [] are;
  at = v;
  there = there;
  made = record {
    lead = λ k x at. absurd (omega (arith, slice_get_within [] k x at));
    whole = λ i cover lt at. absurd (omega (arith, lt));
  };
}

module _ {s : Scene} {base old new : DraftData} {vertex : ℕ} {cover : Edge} {row made : List Passage} {done : ℕ}
    (is : IsMadeUpTo s base old vertex row done) (adds : AddsCover s old new vertex cover row made)
    (explored : is.at.state < length base.states.edges) where
  at_old : slice_get old.vertices vertex ≡ Some is.at
  at_old = still_there vertex is.adds.vertices.grown is.there

  same_vertex : adds.at ≡ is.at
  same_vertex = some_same adds.at is.at (sym adds.there ∙ at_old)

  pub made_more : slice_get (covers_at old.states is.at) done ≡ Some cover →
      IsMadeUpTo s base new vertex made (done + 1)
  made_more here =
      let grow = adds_grow is.adds.are_fit.states adds.adds in
      let kept = row_kept s is.at is.adds.are_fit.states grow adds.adds.vertices.grown
      (still_explored is.adds explored) is.made in
      let there : slice_get (covers_at new.states is.at) done ≡ Some cover =
      ap (λ (l : List Edge). slice_get l done) (same_covers is.at.state adds.adds) ∙ here in
      record {
        adds = adds_on adds.more adds.made_is is.adds adds.adds;
        at = is.at;
        there = is.there;
        made = row_more adds.more kept adds.made_is
            (λ k x at. subst (λ (v : ProductVertex). LeadsBy s new.states new.vertices v x) same_vertex
            (adds.lead k x at))
            cover there
            (subst (λ (v : ProductVertex). HasEachStep s new.states new.vertices v made cover)
            same_vertex adds.whole);
      }

-- ## The first vertex

pub draft_first : {s : Scene} {d : DraftData} → AreStates d.states →
    d.states.sets ≡ d.states.board.initial ∷ [] → d.vertices ≡ first_of s ∷ [] → d.rows ≡ [] → IsExplored s d 0
draft_first {s} {d} are sets all rows = explored_first are sets all rows (record {
  wide = length-map s.circuit.latches (λ (l : Latch). l.reset);
  state = omega (arith, ap (λ (l : List ℕ). length l) sets);
})
