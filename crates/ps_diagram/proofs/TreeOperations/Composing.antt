-- Trees in which Boolean functions (truths) replace propositions.
use Rattle.std.proofs.Common.{◌≡◌, ℕ, ◌<◌, Bool, cond, List, All, Option, None, Ok, Some, length, get_or, refl, ap, sym}
use Rattle.std.proofs.Common.{◌∙◌}
use Rattle.std.proofs.Common.{inl, inr}
use Rattle.std.specs.Prelude.{is_some}
use Rattle.ps_diagram.specs.Inner.Composed.{AreBitsAt, IsComposed, IsOnlySide}
use Rattle.ps_diagram.specs.Inner.Known.{Knows}
use Rattle.ps_diagram.specs.Inner.Parts.{IsChoice}
use Rattle.ps_diagram.specs.Leaves.{chosen}
use Rattle.ps_diagram.specs.Table.{Table, IsNode, Keeps, MakesDiagram, MakesTree, leaf_of, tree_of}
use Rattle.ps_diagram.specs.Tree.{Tree, leaf_at}
use Rattle.ps_diagram.proofs.NodeTables.Cells.{bool_cases}
use Rattle.ps_diagram.proofs.NodeTables.MadeDiagrams.{by-sides}
use Rattle.ps_diagram.proofs.TreeOperations.Truths.{leaf_kept}

-- if only one side of a test is needed, since the function in place of the proposition is constant, this side is an
-- earlier node
pub side_of : {s : Table} (t : Table) {node p low high : ℕ} (truth : ℕ) {side : ℕ} → IsChoice s node p low high →
    IsOnlySide t truth low high side → (side < node) × IsNode s side
side_of t {low} {high} truth {side} h only = let e = only 0 in elim (bool_cases (is_some (leaf_of t truth 0))) [
  | inl is ↦ let same : side ≡ high = rw is at e in rw same (h.high_earlier, h.high_held)
  | inr is ↦ let same : side ≡ low = rw is at e in rw same (h.low_earlier, h.low_held)
]

module _ {t u : Table} (truths : List ℕ) (k : Keeps t u) (held : All (IsNode t) truths) where
  pub bits_before : (letter : ℕ) (f : ℕ → Bool) → AreBitsAt u truths letter f → AreBitsAt t truths letter f
  bits_before letter f bits p lt = bits p lt ∙ ap is_some (leaf_kept letter k (held p 0 lt))

  pub bits_after : (letter : ℕ) (f : ℕ → Bool) → AreBitsAt t truths letter f → AreBitsAt u truths letter f
  bits_after letter f bits p lt = bits p lt ∙ sym (ap is_some (leaf_kept letter k (held p 0 lt)))

  -- when the table of nodes grows, each entry of the memo table still relates a node to the node that was made from it
  pub composed_kept : (s : Table) (known : ℕ → Option ℕ) → Knows (IsComposed t truths) s t known →
      Knows (IsComposed u truths) s u known
  composed_kept s known h node made e =
      let r = h node made e in (
        r.0,
        k.held made r.1,
        (λ letter f bits. leaf_kept letter k r.1 ∙ r.2 letter f (bits_before letter f bits)),
      )

chosen_side : (x a b : Option ℕ) → chosen x a b ≡ cond (is_some x) a b
chosen_side None a b = refl
chosen_side (Some k) a b = refl

-- replacing propositions in a node: in its low side first, then in its high side, and the tested proposition's function
-- chooses between the results
pub composed_sides : {E : Type 0} {s r u v w : Table} (truths : List ℕ) → All (IsNode r) truths →
    {node p low high low' high' made' : ℕ} → IsChoice s node p low high → p < length truths →
    MakesTree {E = E} r u (Ok low') (IsComposed r truths (tree_of s low)) →
    MakesTree {E = E} u v (Ok high') (IsComposed u truths (tree_of s high)) →
    MakesDiagram {E = E} v w (Ok made') (λ letter.
    chosen (leaf_of v (get_or truths p 0) letter) (leaf_of v high' letter) (leaf_of v low' letter)) →
    MakesTree {E = E} r w (Ok made') (IsComposed r truths (tree_of s node))
composed_sides {s = s} {r = r} {u = u} {v = v} {w = w} truths held {p = p} {low = low} {high = high} {low' = low'}
    {high' = high'} h named l g made =
    let k = l.keeps in
    let m = g.keeps in
    by-sides l g made (λ letter f bits.
    let x = leaf_of v (get_or truths p 0) letter in
    let n : IsNode r (get_or truths p 0) = held p 0 named in
    let same : is_some x ≡ f p =
    ap is_some (leaf_kept letter m (k.held (get_or truths p 0) n) ∙ leaf_kept letter k n) ∙ sym (bits p named) in
    let one : leaf_of v high' letter ≡ leaf_at (tree_of s high) f =
    g.leaf letter f (bits_after truths k held letter f bits) in
    let other : leaf_of v low' letter ≡ leaf_at (tree_of s low) f = leaf_kept letter m l.held ∙ l.leaf letter f bits in
    made.leaf letter ∙ chosen_side x (leaf_of v high' letter) (leaf_of v low' letter)
    ∙ ap (λ b. cond b (leaf_of v high' letter) (leaf_of v low' letter)) same
    ∙ ap (λ y. cond (f p) y (leaf_of v low' letter)) one
    ∙ ap (λ y. cond (f p) (leaf_at (tree_of s high) f) y) other
    ∙ sym (ap (λ (y : Tree). leaf_at y f) h.tree))
