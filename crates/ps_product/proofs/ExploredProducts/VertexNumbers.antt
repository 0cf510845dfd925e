-- Lemmas about the vertices found so far, and about their keys.
use Rattle.std.proofs.Common.{◌≡◌, ◌⊎◌, ℕ, ◌+◌, ◌<◌, List, [], ◌∷◌, ◌++◌, Some}
use Rattle.std.proofs.Common.{length, get_or}
use Rattle.std.proofs.Common.{refl, ap, sym, ◌∙◌, length-append, arith, inl, inr, append_assoc}
use Rattle.std.specs.List.{slice_get}
use Rattle.std.proofs.Math.ListN.{get_or-append}
use Rattle.std.proofs.Math.Seq.{get_or-append_seam}
use Rattle.std.proofs.lemmas.List.{append-nil, map-append}
use Rattle.std.proofs.lemmas.Option.{slice_get-get_or, slice_get_within}
use Rattle.ps_diagram.proofs.NodeTables.Cells.{push_each}
use Rattle.ps_diagram.proofs.ClassesOfLetters.Distinct.{at_end, at_last, at_left}
use Rattle.ps_product.specs.Numbers.{AreApart, AreNumbers, IsNumberOf}
use Rattle.ps_product.specs.Inner.Numbers.{HaveNumbers}
use Rattle.ps_product.specs.Words.{AreOnce, HasGrown, IsNumberOfBits}
use Rattle.ps_product.specs.Products.{ProductVertex}
use Rattle.ps_product.specs.Vertices.{product_vertex}
use Rattle.ps_product.specs.declared.edges.Edge.{Edge}
use Rattle.ps_product.proofs.ExploredProducts.EdgeLemmas.{element, same_vertex}
use Rattle.ps_keys.specs.Keys.{IsPlacedKey}
use Rattle.ps_product.proofs.ExploredProducts.WordNumbers.{lacking, number_injective, number_kept, number_one}
use Rattle.ps_product.proofs.ExploredProducts.WordNumbers.{once_more, triple_eq}
use Rattle.ps_product.proofs.ExploredProducts.WordNumbers.{triple_own, triple_same}
use Rattle.ps_simulate.proofs.NamingLemmas.{some_same}

-- ## Keys

pub numbers_none : HaveNumbers [] [] []
numbers_none = record {
  each = refl;
  keyed = λ i v at. absurd (cc);
  words_once = λ i j x a b. absurd (cc);
  keys_once = λ i j x a b. absurd (cc);
}

pub numbers_kept : {vertices : List ProductVertex} {old new : List (ℕ × ℕ)} {keys : List (ℕ × ℕ × ℕ)} →
    HaveNumbers vertices old keys → HasGrown old new → AreOnce new → HaveNumbers vertices new keys
numbers_kept have grown once = record {
  each = have.each;
  keyed = λ i v at. let k = have.keyed i v at in (k.0, number_kept v.latches k.0 grown k.1, k.2);
  words_once = once;
  keys_once = have.keys_once;
}

-- no vertex occurs twice in the list
pub stored_apart : {vertices : List ProductVertex} {words : List (ℕ × ℕ)} {keys : List (ℕ × ℕ × ℕ)} →
    HaveNumbers vertices words keys → AreApart vertices
stored_apart {words = words} have i j v a b =
    let k = have.keyed i v a in
    let l = have.keyed j v b in
    let same : k.0 ≡ l.0 = number_one words have.words_once v.latches k.0 l.0 k.1 l.1 in
    have.keys_once i j (k.0, v.state, v.priority) k.2
    (l.2 ∙ ap (λ (n : ℕ). Some (n, v.state, v.priority)) (sym same))

module _ {vertices : List ProductVertex} {words : List (ℕ × ℕ)} {keys : List (ℕ × ℕ × ℕ)}
    (have : HaveNumbers vertices words keys) (v : ProductVertex) (n : ℕ) (is : IsNumberOfBits words v.latches n) where
  -- the vertex whose key is found has the index of this key
  pub stands_there : (i : ℕ) → slice_get keys i ≡ Some (n, v.state, v.priority) → slice_get vertices i ≡ Some v
  stands_there i at =
      let lt : i < length vertices = omega (arith, have.each, slice_get_within keys i _ at) in
      let w = element vertices i lt in
      let x = get_or vertices i w in
      let there : slice_get vertices i ≡ Some x = slice_get-get_or vertices i w lt in
      let k = have.keyed i x there in
      let key : (k.0, x.state, x.priority) ≡ (n, v.state, v.priority) = some_same _ _ (sym k.2 ∙ at) in
      let number : k.0 ≡ n = ap (λ (p : ℕ × ℕ × ℕ). p.0) key in
      let latches : x.latches ≡ v.latches = number_injective words x.latches v.latches n (rw number at k.1) is in
      let same : x ≡ v = same_vertex x v latches (ap (λ (p : ℕ × ℕ × ℕ). p.1) key)
      (ap (λ (p : ℕ × ℕ × ℕ). p.2) key) in
      there ∙ ap (λ (y : ProductVertex). Some y) same

  -- a vertex with a new key is appended
  pub numbers_push : ((i : ℕ) → slice_get keys i ≡ Some (n, v.state, v.priority) → ⊥) →
      HaveNumbers (vertices ++ v ∷ []) words (keys ++ (n, v.state, v.priority) ∷ [])
  numbers_push lacks = record {
    each = length-append keys _ ∙ ap (λ m. m + 1) have.each ∙ sym (length-append vertices (v ∷ []));
    keyed = λ i w at. elim (at_last vertices v i at) [
      | inl old ↦ let k = have.keyed i w old in (k.0, k.1, at_left keys _ i k.2)
      | inr new ↦ rw (new.0, new.1, ← have.each) (n, is, at_end keys (n, v.state, v.priority))
    ];
    words_once = have.words_once;
    keys_once = once_more keys (n, v.state, v.priority) have.keys_once lacks;
  }

  module _ (number : ℕ) {more : List (ℕ × ℕ × ℕ)}
      (placed : IsPlacedKey triple_eq keys more (n, v.state, v.priority) number) where
    -- the key of a vertex that occurred is found
    pub found : (number ≡ length vertices → ⊥) → HaveNumbers vertices words more × (slice_get vertices number ≡ Some v)
    found differ = elim placed [
      | inl known ↦
          let at : slice_get keys number ≡ Some (n, v.state, v.priority) =
          slice_get-get_or keys number (n, v.state, v.priority) known.1
          ∙ ap (λ (k : ℕ × ℕ × ℕ). Some k) (triple_same _ _ (known.2 (n, v.state, v.priority))) in
          (rw known.0 have, stands_there number at)
      | inr fresh ↦ absurd (differ (fresh.1 ∙ have.each))
    ]

    -- the key of a new vertex is appended
    pub appended : number ≡ length vertices → HaveNumbers (vertices ++ v ∷ []) words more
    appended last = elim placed [
      | inl known ↦ absurd (let lt = known.1 in omega (arith, lt, have.each, last))
      | inr fresh ↦ rw fresh.0 (numbers_push (lacking triple_eq triple_same triple_own keys _ fresh.2))
    ]

-- ## Numbering the targets of edges, one after another

more_of : {old : List ProductVertex} {v : ProductVertex} {number : ℕ} {new : List ProductVertex} →
    IsNumberOf old v number new → List ProductVertex
more_of {v} is = elim is.list [ inl same ↦ [] | inr grown ↦ v ∷ [] ]

more_is : {old : List ProductVertex} {v : ProductVertex} {number : ℕ} {new : List ProductVertex}
    (is : IsNumberOf old v number new) → new ≡ old ++ more_of is
unfolding more_of
more_is {old} {v} {number} {new} is =
    elim is.list as (λ (x : (new ≡ old) ⊎ ((new ≡ old ++ v ∷ []) × (number ≡ length old))).
    new ≡ old ++ elim x [ inl same ↦ [] | inr grown ↦ v ∷ [] ]) [
      | inl same ↦ same ∙ sym (append-nil old)
      | inr grown ↦ grown.0
    ]

pub numbers_of_none : (vertices : List ProductVertex) → AreNumbers vertices vertices [] [] []
numbers_of_none vertices = record {
  added = [];
  grown = sym (append-nil vertices);
  from = λ i v at. inl at;
  letters_are = refl;
  numbers_each = refl;
  stand = λ k d lt. absurd (omega (arith, lt));
}

pub numbers_of_more : {old now new : List ProductVertex} (edges : List Edge) {numbers letters : List ℕ} (e : Edge)
    {number : ℕ} → AreNumbers old now edges numbers letters → IsNumberOf now (product_vertex e.to) number new →
    AreNumbers old new (edges ++ e ∷ []) (numbers ++ number ∷ []) (letters ++ e.letter ∷ [])
numbers_of_more {old} {now} {new} edges {numbers} {letters} e {number} h is =
    let grown : new ≡ now ++ more_of is = more_is is in
    record {
      added = h.added ++ more_of is;
      grown = grown ∙ ap (λ (l : List ProductVertex). l ++ more_of is) h.grown ∙ append_assoc old h.added (more_of is);
      from = λ i v at. elim is.list [
        | inl same ↦ came i v (rw same at at)
        | inr new_one ↦ elim (at_last now (product_vertex e.to) i (rw new_one.0 at at)) [
          | inl before ↦ came i v before
          | inr last ↦ inr (length numbers, at_end numbers number ∙ ap (λ x. Some x) (new_one.1 ∙ sym last.1))
        ]
      ];
      letters_are = ap (λ (l : List ℕ). l ++ e.letter ∷ []) h.letters_are
          ∙ sym (map-append (λ (x : Edge). x.letter) edges (e ∷ []));
      numbers_each = length-append numbers (number ∷ []) ∙ ap (λ n. n + 1) h.numbers_each
          ∙ sym (length-append edges (e ∷ []));
      stand = λ k d lt. push_each (λ k (x : Edge). slice_get new (get_or (numbers ++ number ∷ []) k 0) ≡ Some
          (product_vertex x.to)) d edges e refl refl (λ i less.
          ap (slice_get new) (get_or-append numbers (number ∷ []) 0 i (omega (arith, less, h.numbers_each)))
          ∙ kept _ _ (h.stand i d less))
          (ap (λ i. slice_get new (get_or (numbers ++ number ∷ []) i 0)) (sym h.numbers_each)
          ∙ ap (slice_get new) (get_or-append_seam numbers number [] 0) ∙ is.stands) k
          (omega (arith, lt, length-append edges (e ∷ [])));
    }
  where
    kept : (i : ℕ) (v : ProductVertex) → slice_get now i ≡ Some v → slice_get new i ≡ Some v
    kept i v at = elim is.list [
      | inl same ↦ rw same at
      | inr grown ↦ rw grown.0 (at_left now (product_vertex e.to ∷ []) i at)
    ]

    came : (i : ℕ) (v : ProductVertex) → slice_get now i ≡ Some v →
        (slice_get old i ≡ Some v) ⊎ ((k : ℕ) × (slice_get (numbers ++ number ∷ []) k ≡ Some i))
    came i v at = elim (h.from i v at) [
      | inl older ↦ inl older
      | inr there ↦ inr (there.0, at_left numbers (number ∷ []) there.0 there.1)
    ]
