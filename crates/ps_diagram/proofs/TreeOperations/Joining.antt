-- Overlays of trees: the tree that has the leaves of two trees which never have different leaves at one letter.
use Rattle.std.proofs.Common.{◌≡◌, ℕ, Bool, Ok, cond, ◌∙◌, inl, inr}
use Rattle.std.specs.Prelude.{Result, IfErr}
use Rattle.std.specs.Result.{IsErrAnd}
use Rattle.std.proofs.lemmas.Result.{err_from_is_err_and}
use Rattle.ps_diagram.specs.declared.fault.OverlayError.{OverlayError}
use Rattle.ps_diagram.specs.declared.fault.OverlayError.TheVariants.{Clash, OutOfMemory}
use Rattle.ps_diagram.specs.Tree.{Tree, IsTestOf}
use Rattle.ps_diagram.specs.Table.{Table, MakesTree, tree_of}
use Rattle.ps_diagram.specs.Split.{IsSides, IsSplit}
use Rattle.ps_diagram.specs.Inner.Known.{IsOverlay, IsClash}
use Rattle.ps_diagram.proofs.NodeTables.Cells.{bool_cases}
use Rattle.ps_diagram.proofs.Canon.{changed}
use Rattle.ps_diagram.specs.declared.split.Split.{Split}
use Rattle.ps_diagram.proofs.Sides.{side_at}
use Rattle.ps_diagram.proofs.NodeTables.MadeDiagrams.{by-sides}

-- the overlay of two nodes split at p is a test of p; its sides are the overlay of the nodes' low sides, made first,
-- and that of their high sides
pub overlay_sides : {E F : Type 0} {t u v w : Table} {a b low high made : ℕ} {s : Split} → IsSplit t a b s →
    MakesTree {E = E} t u (Ok low) (IsOverlay (tree_of t s.left.low) (tree_of t s.right.low)) →
    MakesTree {E = E} u v (Ok high) (IsOverlay (tree_of u s.left.high) (tree_of u s.right.high)) →
    MakesTree {E = F} v w (Ok made) (IsTestOf s.proposition (tree_of v low) (tree_of v high)) →
    MakesTree {E = E} t w (Ok made) (IsOverlay (tree_of t a) (tree_of t b))
overlay_sides {s = s} sides l h test =
    let sa = sides.first_sides in
    let sb = sides.second_sides in
    let k = l.keeps in
    let m = h.keeps in
    by-sides l h test (λ f. rw (sa.leaf f, sb.leaf f, test.leaf f) (elim (bool_cases (f s.proposition)) [
      | inl is ↦ rw (is, ← k.same _ sa.high_held, ← k.same _ sb.high_held) (h.leaf f)
      | inr is ↦ rw (is, m.same _ l.held) (l.leaf f)
    ]))

-- if the low sides or the high sides of two nodes have different leaves at some letter, the two nodes have different
-- leaves at some letter
pub clash_side : {t : Table} {a b p al ah bl bh : ℕ} → IsSides t a p al ah → IsSides t b p bl bh → (v : Bool)
    (e : OverlayError) → IsClash (tree_of t (cond v ah al)) (tree_of t (cond v bh bl)) e →
    IsClash (tree_of t a) (tree_of t b) e
clash_side {p} sa sb v (Clash x y) c = (changed c.0 p v, side_at v sa c.0 ∙ c.1, side_at v sb c.0 ∙ c.2, c.3)
clash_side sa sb v OutOfMemory c = tt

pub clash_passes : (r : Result ℕ OverlayError) (a b : Tree) (e : OverlayError) → IsErrAnd r (λ y. y ≡ e) →
    IsClash a b e → IfErr r (IsClash a b)
clash_passes r a b e is c = let y = err_from_is_err_and r is in rw (y.1, y.2) c
