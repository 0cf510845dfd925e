-- Edges of a tableau's cover, appended one after another to a row.
use Rattle.std.proofs.Common.{◌≡◌, ℕ, ◌+◌, ◌<◌, inl, inr, List, [], ◌∷◌, ◌++◌, Some, get_or, length}
use Rattle.std.proofs.Common.{refl, sym, ap, subst, ◌∙◌, arith, length-append}
use Rattle.std.specs.List.{slice_get}
use Rattle.std.proofs.lemmas.Bool.{cases_lt}
use Rattle.std.proofs.lemmas.List.{append-nil, append_assoc, get_or-map}
use Rattle.std.proofs.lemmas.Option.{slice_get-get_or, slice_get_within, get_or_from_slice_get}
use Rattle.ps_diagram.proofs.ClassesOfLetters.Distinct.{at_end, at_left}
use Rattle.ps_product.specs.Numbers.{AreNumbers}
use Rattle.ps_product.specs.Products.{ProductVertex}
use Rattle.ps_product.specs.declared.edges.Edge as product
use Rattle.ps_product.proofs.ExploredProducts.EdgeLemmas.{element}
use Rattle.ps_simulate.proofs.NamingLemmas.{some_same}
use Rattle.ps_tableau.specs.declared.edge.Edge.{Edge}
use Rattle.ps_tableau_product.specs.Inner.Exploring.{Appends, Grew, IsPassageOf}
use Rattle.ps_tableau_product.specs.declared.graph.Passage.{Passage}

pub grew_none : (numbers letters : List ℕ) (cover : Edge) (row : List Passage) → Grew numbers letters cover row row 0
grew_none numbers letters cover row = record {
  more = [];
  is = sym (append-nil row);
  each = refl;
  made = λ k x at. absurd (omega (arith, slice_get_within [] k x at));
}

pub grew_more : {numbers letters : List ℕ} {cover : Edge} {old new after : List Passage} {count : ℕ} (x : Passage) →
    Grew numbers letters cover old new count → after ≡ new ++ x ∷ [] → x.cover ≡ cover →
    x.letter ≡ get_or letters count 0 → x.to ≡ get_or numbers count 0 →
    Grew numbers letters cover old after (count + 1)
grew_more {numbers} {letters} {cover} {old} {new} {after} {count} x grew pushed cover_is letter_is to_is = record {
  more = grew.more ++ x ∷ [];
  is = pushed ∙ ap (λ (l : List Passage). l ++ x ∷ []) grew.is ∙ append_assoc old grew.more (x ∷ []);
  each = length-append grew.more (x ∷ []) ∙ ap (λ n. n + 1) grew.each;
  made = λ k y at. elim (cases_lt k count) [
    | inl below ↦
        let lt : k < length grew.more = omega (arith, below, grew.each) in
        let d = element grew.more k lt in
        let z = get_or grew.more k d in
        let there : slice_get grew.more k ≡ Some z = slice_get-get_or grew.more k d lt in
        let same : z ≡ y = some_same z y
        (sym (at_left grew.more (x ∷ []) k there) ∙ at) in
        subst (IsPassageOf numbers letters cover k) same (grew.made k z there)
    | inr above ↦
        let inside = slice_get_within (grew.more ++ x ∷ []) k y at in
        let k_is : k ≡ count = omega (arith, inside, above, length-append grew.more (x ∷ []), grew.each) in
        let place : k ≡ length grew.more = k_is ∙ sym grew.each in
        let same : x ≡ y =
        some_same x y (sym (at_end grew.more x) ∙ ap (slice_get (grew.more ++ x ∷ [])) (sym place) ∙ at) in
        subst (λ (n : ℕ). IsPassageOf numbers letters cover n y) (sym k_is)
        (subst (IsPassageOf numbers letters cover count) same
        (record { cover_is = cover_is; letter_is = letter_is; to_is = to_is }))
  ];
}

-- if all vertices have their numbers, the row has an edge for each
pub appended : {before after : List ProductVertex} {edges : List product.Edge} {numbers letters : List ℕ} {cover : Edge}
    {row made : List Passage} {count : ℕ} → AreNumbers before after edges numbers letters → count ≡ length numbers →
    Grew numbers letters cover row made count → Appends before after edges cover row made
appended {before} {after} {edges} {numbers} {letters} {cover} {row} {made} {count} are all grew = record {
  grown = record { more = are.added; is = are.grown };
  more = grew.more;
  made_is = grew.is;
  one_each = grew.each ∙ all ∙ are.numbers_each;
  each = λ k d x at.
      let is = grew.made k x at in
      let lt : k < length edges = omega (arith, slice_get_within grew.more k x at, grew.each, all, are.numbers_each) in
      let letter_at : get_or letters k 0 ≡ (get_or edges k d).letter =
      ap (λ (l : List ℕ). get_or l k 0) are.letters_are
      ∙ get_or-map (λ (e : product.Edge). e.letter) edges k d 0 lt in
      (is.cover_is, is.letter_is ∙ letter_at, ap (slice_get after) is.to_is ∙ are.stand k d lt);
  from = λ i v at. elim (are.from i v at) [
    | inl old ↦ inl old
    | inr there ↦
        let k = there.0 in
        let lt : k < length grew.more =
        omega (arith, slice_get_within numbers k i there.1, grew.each, all) in
        let d = element grew.more k lt in
        let x = get_or grew.more k d in
        let here : slice_get grew.more k ≡ Some x = slice_get-get_or grew.more k d lt in
        inr (k, x, here, (grew.made k x here).to_is ∙ get_or_from_slice_get numbers k i 0 there.1)
  ];
}
