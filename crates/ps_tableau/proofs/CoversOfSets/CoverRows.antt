-- Products that grow with a board.
use Rattle.std.proofs.Common.{◌≡◌, ◌∙◌, ℕ, List, [], ◌∷◌, ◌++◌, Option, None, ap, append_assoc, subst, sym}
use Rattle.std.proofs.Common.{◌<◌, get_or, length}
use Rattle.std.proofs.lemmas.List.{map-append}
use Rattle.std.proofs.lemmas.List.Elements.{All-append, All-cons, All-nil, All-weaker}
use Rattle.std.specs.List.{All}
use Rattle.ps_diagram.specs.Leaves.{chosen}
use Rattle.ps_diagram.specs.Letters.{assignment}
use Rattle.ps_diagram.specs.Table.{IsNode, Keeps, Table, leaf_of}
use Rattle.ps_diagram.specs.Tree.{Tree, leaf_at}
use Rattle.ps_tableau.proofs.BoardLemmas.{cover_kept, covers_kept, edge_kept}
use Rattle.ps_tableau.proofs.CoversOfSets.Products.{products_columns, products_row}
use Rattle.ps_tableau.specs.Boards.{Grows, IsEdgeOf, MakesEdges, cover_of, covers_of}
use Rattle.ps_tableau.specs.Inner.Joins.{AddsRow, MakesEdge}
use Rattle.ps_tableau.specs.Covers.{Cover}
use Rattle.ps_tableau.specs.Operators.{AreProducts}
use Rattle.ps_tableau.specs.declared.board.Board.{Board}
use Rattle.ps_tableau.specs.declared.edge.Edge.{Edge}

-- ## Guards

pub kept_leaf : (s t : Table) (node letter : ℕ) → Keeps s t → IsNode s node →
    leaf_of t node letter ≡ leaf_of s node letter
kept_leaf s t node letter keeps held = ap (λ (u : Tree). leaf_at u (assignment letter)) (keeps.same node held)

pub guard_both : (s t u : Table) (a b none guard : ℕ) → Keeps s t → IsNode s a → IsNode s b →
    ((letter : ℕ) → leaf_of t none letter ≡ None) →
    ((letter : ℕ) → leaf_of u guard letter
    ≡ chosen (leaf_of t a letter) (leaf_of t b letter) (leaf_of t none letter)) →
    (letter : ℕ) → leaf_of u guard letter ≡ chosen (leaf_of s a letter) (leaf_of s b letter) None
guard_both s t u a b none guard keeps first second nothing is letter =
    let x = kept_leaf s t a letter keeps first in
    let y = kept_leaf s t b letter keeps second in
    let z = nothing letter in
    is letter
    ∙ ap (λ (l : Option ℕ). chosen l (leaf_of t b letter) (leaf_of t none letter)) x
    ∙ ap (λ (l : Option ℕ). chosen (leaf_of s a letter) l (leaf_of t none letter)) y
    ∙ ap (λ (l : Option ℕ). chosen (leaf_of s a letter) (leaf_of s b letter) l) z

pub guard_less : (s t u : Table) (a b none guard : ℕ) → Keeps s t → IsNode s a → IsNode s b →
    ((letter : ℕ) → leaf_of t none letter ≡ None) →
    ((letter : ℕ) → leaf_of u guard letter
    ≡ chosen (leaf_of t b letter) (leaf_of t none letter) (leaf_of t a letter)) →
    (letter : ℕ) → leaf_of u guard letter ≡ chosen (leaf_of s b letter) None (leaf_of s a letter)
guard_less s t u a b none guard keeps first second nothing is letter =
    let x = kept_leaf s t a letter keeps first in
    let y = kept_leaf s t b letter keeps second in
    let z = nothing letter in
    is letter
    ∙ ap (λ (l : Option ℕ). chosen l (leaf_of t none letter) (leaf_of t a letter)) y
    ∙ ap (λ (l : Option ℕ). chosen (leaf_of s b letter) l (leaf_of t a letter)) z
    ∙ ap (λ (l : Option ℕ). chosen (leaf_of s b letter) None l) x

-- ## Rows

pub item_held : {X : Type 0} (P : X → Type 0) (xs : List X) (i : ℕ) (x : X) → All P xs → i < length xs →
    x ≡ get_or xs i x → P x
item_held P xs i x all within is = subst P (sym is) (all i x within)

pub edges_kept : {old new : Board} → Grows old new → (edges : List Edge) → All (IsEdgeOf old) edges →
    All (IsEdgeOf new) edges
edges_kept {old} {new} grows edges all = All-weaker (IsEdgeOf old) (IsEdgeOf new) (λ e h. edge_kept grows h) edges all

pub row_more : {old mid new : Board} {edge other : Edge} {others joins more most : List Edge} → IsEdgeOf old edge →
    IsEdgeOf old other → Grows old mid → Grows mid new → AddsRow old mid edge others joins more →
    AddsRow mid new edge (other ∷ []) more most → AddsRow old new edge (others ++ other ∷ []) joins most
row_more {old} {mid} {new} {edge} {other} {others} {joins} {more} {most} here there first second row last =
    let rows = row.row ++ last.row in
    let left : AreProducts (cover_of old edge ∷ []) (covers_of old others) (covers_of new row.row) =
    subst (λ (cs : List Cover). AreProducts (cover_of old edge ∷ []) (covers_of old others) cs)
    (sym (covers_kept second row.row row.held)) row.products in
    let middle : AreProducts (cover_of old edge ∷ []) (cover_of mid other ∷ []) (covers_of new last.row) =
    subst (λ (c : Cover). AreProducts (c ∷ []) (cover_of mid other ∷ []) (covers_of new last.row))
    (cover_kept first here) last.products in
    let right : AreProducts (cover_of old edge ∷ []) (cover_of old other ∷ []) (covers_of new last.row) =
    subst (λ (c : Cover). AreProducts (cover_of old edge ∷ []) (c ∷ []) (covers_of new last.row))
    (cover_kept first there) middle in
    let both = products_columns left right in
    record {
      row = rows;
      is = last.is ∙ ap (λ (es : List Edge). es ++ last.row) row.is ∙ append_assoc joins row.row last.row;
      held = All-append (IsEdgeOf new) row.row last.row (edges_kept second row.row row.held) last.held;
      products =
          subst (λ (cs : List Cover). AreProducts (cover_of old edge ∷ []) cs (covers_of new rows))
          (sym (map-append (cover_of old) others (other ∷ [])))
          (subst (λ (cs : List Cover). AreProducts
          (cover_of old edge ∷ []) (covers_of old others ++ cover_of old other ∷ []) cs)
          (sym (map-append (cover_of new) row.row last.row)) both);
    }

pub rows_more : {old mid new : Board} {edge : Edge} (first : List Edge) {second joins more : List Edge} →
    IsEdgeOf old edge →
    All (IsEdgeOf old) second → Grows old mid → Grows mid new →
    MakesEdges mid (AreProducts (covers_of old first) (covers_of old second)) joins →
    AddsRow mid new edge second joins more →
    MakesEdges new (AreProducts (covers_of old (first ++ edge ∷ [])) (covers_of old second)) more
rows_more {old} {mid} {new} {edge} first {second} {joins} {more} here all before after made row =
    let above : AreProducts (covers_of old first) (covers_of old second) (covers_of new joins) =
    subst (λ (cs : List Cover). AreProducts (covers_of old first) (covers_of old second) cs)
    (sym (covers_kept after joins made.held)) made.right in
    let middle : AreProducts (cover_of old edge ∷ []) (covers_of mid second) (covers_of new row.row) =
    subst (λ (c : Cover). AreProducts (c ∷ []) (covers_of mid second) (covers_of new row.row))
    (cover_kept before here) row.products in
    let below : AreProducts (cover_of old edge ∷ []) (covers_of old second) (covers_of new row.row) =
    subst (λ (cs : List Cover). AreProducts (cover_of old edge ∷ []) cs (covers_of new row.row))
    (covers_kept before second all) middle in
    let both = products_row above below in
    let whole : covers_of new more ≡ covers_of new joins ++ covers_of new row.row =
    ap (covers_of new) row.is ∙ map-append (cover_of new) joins row.row in
    record {
      held = subst (λ (es : List Edge). All (IsEdgeOf new) es) (sym row.is)
          (All-append (IsEdgeOf new) joins row.row (edges_kept after joins made.held) row.held);
      right = subst (λ (cs : List Cover). AreProducts (covers_of old (first ++ edge ∷ [])) (covers_of old second) cs)
          (sym whole)
          (subst (λ (cs : List Cover). AreProducts cs (covers_of old second)
          (covers_of new joins ++ covers_of new row.row))
          (sym (map-append (cover_of old) first (edge ∷ []))) both);
    }

-- ## Single edges

pub one_edge : {b : Board} {c : Cover} {e : Edge} (P : List Cover → Type 0) → MakesEdge b c e → P (c ∷ []) →
    MakesEdges b P (e ∷ [])
one_edge {b} {c} {e} P made right = record {
  held = All-cons (IsEdgeOf b) e [] made.held (All-nil (IsEdgeOf b));
  right = subst (λ (d : Cover). P (d ∷ [])) (sym made.is) right;
}
