-- Pruning while a board grows.
use Rattle.std.proofs.Common.{◌≡◌, ◌∙◌, ◌<◌, ℕ, List, [], ◌∷◌, ◌++◌, Some, ap, get_or, length, reverse, set}
use Rattle.std.proofs.Common.{subst, sym}
use Rattle.std.proofs.lemmas.List.{get_or-map, length-map, map-append, map-set}
use Rattle.std.proofs.lemmas.List.Elements.{All-append, All-push, All-set}
use Rattle.std.proofs.lemmas.Option.{get_or_from_slice_get, slice_get_within}
use Rattle.std.specs.List.{All, Contains, slice_get}
use Rattle.ps_tableau.proofs.BoardLemmas.{cover_kept, covers_kept}
use Rattle.ps_tableau.proofs.CoversOfSets.JoinLemmas.{from_map, in_map}
use Rattle.ps_tableau.proofs.Members.{from_reverse, in_reverse, item_in}
use Rattle.ps_tableau.proofs.CoversOfSets.Products.{pruned_refl}
use Rattle.ps_tableau.proofs.CoversOfSets.PruneLemmas.{beside_more, pruned_at, pruned_last, pruned_push, pruned_same}
use Rattle.ps_tableau.proofs.CoversOfSets.PruneLemmas.{pruned_trans}
use Rattle.ps_tableau.proofs.CoversOfSets.PruneLemmas.{pruned_turned}
use Rattle.ps_tableau.proofs.CoversOfSets.CoverRows.{edges_kept, item_held}
use Rattle.ps_tableau.specs.Boards.{Grows, IsEdgeOf, MakesEdges, cover_of, covers_of}
use Rattle.ps_tableau.specs.Inner.Pruning.{AddsEdge, IsPlaceOfSame, Makes}
use Rattle.ps_tableau.specs.Covers.{Cover}
use Rattle.ps_tableau.specs.Operators.{ArePruned}
use Rattle.ps_tableau.specs.declared.board.Board.{Board}
use Rattle.ps_tableau.specs.declared.edge.Edge.{Edge}

pub covers_more : {old new : Board} (kept added : List Edge) {more : List Edge} → Grows old new →
    All (IsEdgeOf old) kept →
    more ≡ kept ++ added → covers_of new more ≡ covers_of old kept ++ covers_of new added
covers_more {old} {new} kept added {more} grows held is =
    ap (covers_of new) is ∙ map-append (cover_of new) kept added
    ∙ ap (λ (cs : List Cover). cs ++ covers_of new added) (covers_kept grows kept held)

pub ended : {mid new : Board} {left : Edge} (covers : List Cover) {kept more : List Edge} → Grows mid new →
    All (IsEdgeOf mid) kept → ArePruned covers (covers_of mid kept ++ cover_of mid left ∷ []) →
    AddsEdge mid new left kept more → MakesEdges new (ArePruned covers) more
ended {mid} {new} {left} covers {kept} {more} grows held pruned adds = record {
  held = subst (λ (es : List Edge). All (IsEdgeOf new) es) (sym adds.is)
      (All-append (IsEdgeOf new) kept adds.added (edges_kept grows kept held) adds.held);
  right = subst (λ (cs : List Cover). ArePruned covers cs) (sym (covers_more kept adds.added grows held adds.is))
      (pruned_last (covers_of mid kept) (cover_of mid left) pruned adds.pruned);
}

pub pushed_edge : {old mid new : Board} {edge : Edge} (edges : List Edge) {kept more : List Edge} → Grows old mid →
    IsEdgeOf old edge → MakesEdges mid (ArePruned (covers_of old edges)) kept →
    MakesEdges new (ArePruned (covers_of mid kept ++ cover_of mid edge ∷ [])) more →
    MakesEdges new (ArePruned (covers_of old (edges ++ edge ∷ []))) more
pushed_edge {old} {mid} {new} {edge} edges {kept} {more} grows here made last = record {
  held = last.held;
  right =
      let now = subst (λ (c : Cover). ArePruned (covers_of mid kept ++ c ∷ []) (covers_of new more))
      (cover_kept grows here) last.right in
      subst (λ (cs : List Cover). ArePruned cs (covers_of new more)) (sym (map-append (cover_of old) edges (edge ∷ [])))
      (pruned_push (cover_of old edge) made.right now);
}

pub pushed_front : {old mid new : Board} {edge : Edge} (edges : List Edge) {kept more : List Edge} → Grows old mid →
    IsEdgeOf old edge → MakesEdges mid (ArePruned (covers_of old edges)) kept →
    MakesEdges new (ArePruned (covers_of mid kept ++ cover_of mid edge ∷ [])) more →
    MakesEdges new (ArePruned (covers_of old (edge ∷ edges))) more
pushed_front {old} {mid} {new} {edge} edges {kept} {more} grows here made last =
    let all = pushed_edge edges grows here made last in
    let turned = subst (λ (cs : List Cover). ArePruned cs (covers_of new more))
    (map-append (cover_of old) edges (edge ∷ [])) all.right in
    record {
      held = all.held;
      right = pruned_trans (pruned_turned (cover_of old edge ∷ []) (covers_of old edges)) turned;
    }

-- ## One cover beside others

-- an edge that a list has at a place
pub held_at : (P : Edge → Type 0) (edges : List Edge) (place : ℕ) {edge : Edge} → All P edges →
    slice_get edges place ≡ Some edge → P edge
held_at P edges place {edge} held there =
    item_held P edges place edge held (slice_get_within edges place edge there)
    (sym (get_or_from_slice_get edges place edge edge there))

pub left_one : (old : Board) (others : List Edge) (place : ℕ) (edge : Edge) {other : Edge} (rest : Cover) →
    slice_get others place ≡ Some other →
    ArePruned (cover_of old edge ∷ cover_of old other ∷ []) (rest ∷ cover_of old other ∷ []) →
    ArePruned (covers_of old others ++ cover_of old edge ∷ []) (covers_of old others ++ rest ∷ [])
left_one old others place edge {other} rest there now =
    let has = item_in others place other (slice_get_within others place other there)
    (sym (get_or_from_slice_get others place other other there)) in
    beside_more (covers_of old others) (cover_of old edge) rest (cover_of old other)
    (in_map (cover_of old) others other has) now

-- what is left beside one and then beside another
pub left_next : {old mid : Board} (others : List Edge) (left : Edge) {covers : List Cover} (rest : Cover) →
    Grows old mid → All (IsEdgeOf old) others →
    ArePruned covers (covers_of old others ++ cover_of mid left ∷ []) →
    ArePruned (covers_of mid others ++ cover_of mid left ∷ []) (covers_of mid others ++ rest ∷ []) →
    ArePruned covers (covers_of old others ++ rest ∷ [])
left_next {old} {mid} others left {covers} rest grows held pruned now =
    pruned_trans pruned (subst (λ (cs : List Cover). ArePruned (cs ++ cover_of mid left ∷ []) (cs ++ rest ∷ []))
    (covers_kept grows others held) now)

-- what is left is added
pub left_added : {mid next new : Board} (edge : Edge) {left : Edge} {kept more : List Edge} → Grows mid next →
    Grows next new → All (IsEdgeOf mid) kept →
    Makes next (λ c. ArePruned (covers_of mid kept ++ cover_of mid edge ∷ []) (covers_of mid kept ++ c ∷ [])) left →
    AddsEdge next new left kept more →
    MakesEdges new (ArePruned (covers_of mid kept ++ cover_of mid edge ∷ [])) more
left_added {mid} {next} {new} edge {left} {kept} {more} before after held made adds =
    let covers = covers_of mid kept ++ cover_of mid edge ∷ [] in
    let pruned = subst (λ (cs : List Cover). ArePruned covers (cs ++ cover_of next left ∷ []))
    (sym (covers_kept before kept held)) made.right in
    ended covers after (edges_kept before kept held) pruned adds

pub same_at : (edge : Edge) {list united : List Edge} {place : ℕ} {other : Edge} → list ≡ united →
    IsPlaceOfSame edge list place → other ≡ get_or united place other →
    (place < length united) × (other.next ≡ edge.next) × (other.postponed ≡ edge.postponed)
same_at edge {list} {united} {place} {other} same is at =
    let here = subst (λ (es : List Edge). IsPlaceOfSame edge es place) same is in
    let one : other ≡ here.other = at ∙ get_or_from_slice_get united place here.other other here.there in (
      slice_get_within united place here.other here.there,
      ap (λ (e : Edge). e.next) one ∙ here.next,
      ap (λ (e : Edge). e.postponed) one ∙ here.postponed,
    )

-- one more cover is added as it is, and one is united with that at a place
pub united_end : {b : Board} {edge : Edge} (united : List Edge) {more : List Edge} → All (IsEdgeOf b) united →
    IsEdgeOf b edge → more ≡ united ++ edge ∷ [] →
    MakesEdges b (ArePruned (covers_of b united ++ cover_of b edge ∷ [])) more
united_end {b} {edge} united {more} held here is = record {
  held = subst (λ (es : List Edge). All (IsEdgeOf b) es) (sym is) (All-push (IsEdgeOf b) united edge held here);
  right = subst (λ (cs : List Cover). ArePruned (covers_of b united ++ cover_of b edge ∷ []) cs)
      (sym (ap (covers_of b) is ∙ map-append (cover_of b) united (edge ∷ [])))
      (pruned_refl (covers_of b united ++ cover_of b edge ∷ []));
}

pub united_at : {old new : Board} (edge : Edge) {other one : Edge} (united : List Edge) (place : ℕ) → Grows old new →
    All (IsEdgeOf old) united → place < length united → other ≡ get_or united place other →
    Makes new (λ c. ArePruned (cover_of old other ∷ cover_of old edge ∷ []) (c ∷ [])) one →
    MakesEdges new (ArePruned (covers_of old united ++ cover_of old edge ∷ [])) (set united place one)
united_at {old} {new} edge {other} {one} united place grows held within is made =
    let here : cover_of old other ≡ get_or (covers_of old united) place (cover_of old edge) =
    ap (cover_of old) is ∙ sym (get_or-map (cover_of old) united place other (cover_of old edge) within) in
    let now = subst (λ (c : Cover). ArePruned (c ∷ cover_of old edge ∷ []) (cover_of new one ∷ [])) here made.right in
    let low : place < length (covers_of old united) = rw length-map within in
    let covers : covers_of new (set united place one) ≡ set (covers_of old united) place (cover_of new one) =
    map-set (cover_of new) united place one
    ∙ ap (λ (cs : List Cover). set cs place (cover_of new one)) (covers_kept grows united held) in
    record {
      held = All-set (IsEdgeOf new) united place one made.held (edges_kept grows united held);
      right = subst (λ (cs : List Cover). ArePruned (covers_of old united ++ cover_of old edge ∷ []) cs) (sym covers)
          (pruned_at (covers_of old united) place (cover_of new one) (cover_of old edge) low now);
    }

-- ## Reversed lists

pub covers_reversed : (b : Board) (edges : List Edge) → ArePruned (covers_of b edges) (covers_of b (reverse edges))
covers_reversed b edges = pruned_same
    (λ c there.
    let e = from_map (cover_of b) edges c there in
    subst (λ (d : Cover). Contains (covers_of b (reverse edges)) d) e.2
    (in_map (cover_of b) (reverse edges) e.0 (in_reverse edges e.0 e.1)))
    (λ c there.
    let e = from_map (cover_of b) (reverse edges) c there in
    subst (λ (d : Cover). Contains (covers_of b edges) d) e.2
    (in_map (cover_of b) edges e.0 (from_reverse edges e.0 e.1)))

pub pruned_thrice : (old : Board) {first second last : Board} (a : List Edge) {b c d : List Edge} →
    MakesEdges first (ArePruned (covers_of old a)) b → MakesEdges second (ArePruned (covers_of first b)) c →
    MakesEdges last (ArePruned (covers_of second (reverse c))) d → MakesEdges last (ArePruned (covers_of old a)) d
pruned_thrice old {first} {second} {last} a {b} {c} {d} one two three = record {
  held = three.held;
  right = pruned_trans (pruned_trans one.right two.right) (pruned_trans (covers_reversed second c) three.right);
}
