-- A map has the index of each list of latch values that was seen; after a new list of latch values is entered, it still
-- does.
use Rattle.std.proofs.Common.{◌≡◌, ◌≢◌, ℕ, ◌+◌, ◌<◌, Bool, true, cond, List, [], ◌∷◌, ◌++◌, None, Some, Vec, length}
use Rattle.std.proofs.Common.{get_or, refl, ap, sym, ◌∙◌, length-append, rules, arith}
use Rattle.std.specs.BTreeMap.{BTreeMap, btree_map_len, get, IsEmpty}
use Rattle.std.specs.Cmp.{bool_cmp_total}
use Rattle.std.specs.Cmp.Lexicographic.{slice_cmp}
use Rattle.std.specs.Global.{Global}
use Rattle.std.specs.Ordering.{bool_cmp, is_eq}
use Rattle.std.proofs.lemmas.Cmp.{lists_total, tied_itself}
use Rattle.std.proofs.lemmas.Option.{slice_get_within, slice_get-get_or, get_or_from_slice_get}
use Rattle.ps_text.proofs.Combinators.Simple.{none_is_some}
use Rattle.ps_simulate.specs.LassoRuns.{IsSeen, HavePlaces, bits_cmp}
use Rattle.ps_automaton.proofs.StepsByState.DistinctEntries.{at_end, at_last, at_left}

-- ## The lexicographic order of lists of bits

bits_tied : (xs ys : List Bool) → is_eq (slice_cmp bool_cmp xs ys) ≡ true → xs ≡ ys
bits_tied [] [] e = refl
bits_tied [] (y ∷ ys) e = cc
bits_tied (x ∷ xs) [] e = cc
bits_tied (x ∷ xs) (y ∷ ys) e = grind (arith, bits_tied xs ys)

bits_own : (xs : List Bool) → is_eq (slice_cmp bool_cmp xs xs) ≡ true
bits_own xs = ap is_eq (tied_itself (lists_total bool_cmp_total) xs)

-- ## Indices

pub places_start : (places : BTreeMap (Vec Bool Global) ℕ) → IsEmpty places → HavePlaces [] places
places_start places empty = search (rules, none_is_some)

pub seen_before : {seen : List (List Bool)} {places : BTreeMap (Vec Bool Global) ℕ} → HavePlaces seen places →
    (key : Vec Bool Global) {latches : List Bool} → key.items ≡ latches →
    {place : ℕ} → get bits_cmp places key ≡ Some place → IsSeen seen seen latches (Some place)
seen_before {seen} have key same {place} e =
    let at = have.sound key place e in
    (slice_get_within seen place key.items at, get_or_from_slice_get seen place key.items [] at ∙ same, refl)

-- a list of latch values that was not seen before is appended to `seen`, and its index is entered into the map
module _ {seen : List (List Bool)} {old : BTreeMap (Vec Bool Global) ℕ} (new : BTreeMap (Vec Bool Global) ℕ)
    (have : HavePlaces seen old) (key : Vec Bool Global) {place : ℕ} (size : place ≡ length seen)
    (none : get bits_cmp old key ≡ None) (more : btree_map_len new ≡ btree_map_len old + 1)
    (puts : (q : Vec Bool Global) →
    get bits_cmp new q ≡ cond (is_eq (bits_cmp key q)) (Some place) (get bits_cmp old q)) where
  pub not_seen : (k : ℕ) → k < length seen → get_or seen k [] ≢ key.items
  not_seen k lt e = cc (none, have.whole key k (slice_get-get_or seen k [] lt ∙ ap (λ (l : List Bool). Some l) e))

  pub places_push : HavePlaces (seen ++ key.items ∷ []) new
  places_push = record {
    each = more ∙ ap (λ n. n + 1) have.each ∙ sym (length-append seen (key.items ∷ []));
    sound = λ q p h. grind (arith, bits_tied key.items q.items, at_end seen key.items, at_left seen (key.items ∷ []) p);
    whole = λ q p h. grind (arith, at_last seen key.items p h, bits_tied key.items q.items, bits_own key.items);
  }
