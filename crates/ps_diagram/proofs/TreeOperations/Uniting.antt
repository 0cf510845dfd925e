-- Disjunctions of two trees of truth values: the sides of the disjunction are the disjunctions of the trees' sides.
use Rattle.std.proofs.Common.{◌≡◌, ℕ, Bool, true, false, Ok, Option, Some, ap, cond, sym, ◌∙◌, inl, inr}
use Rattle.ps_diagram.specs.declared.split.Split.{Split}
use Rattle.ps_diagram.specs.Inner.Unions.{IsTruthTree, IsUnion}
use Rattle.ps_diagram.specs.Labels.{IsOneOrNone}
use Rattle.ps_diagram.specs.Leaves.{either_leaf}
use Rattle.ps_diagram.specs.Split.{IsSides, IsSplit}
use Rattle.ps_diagram.specs.Table.{Table, Keeps, MakesTree, tree_of}
use Rattle.ps_diagram.specs.Tree.{Tree, IsTestOf, final, leaf_at}
use Rattle.ps_diagram.proofs.Canon.{changed}
use Rattle.ps_diagram.proofs.NodeTables.Cells.{bool_cases}
use Rattle.ps_diagram.proofs.NodeTables.MadeDiagrams.{by-sides}
use Rattle.ps_diagram.proofs.Sides.{side_at}

-- the sides of a tree of truth values are trees of truth values
truth_side : {t : Table} {node p low high : ℕ} (v : Bool) → IsSides t node p low high →
    IsTruthTree (tree_of t node) → IsTruthTree (tree_of t (cond v high low))
truth_side {p = p} v s h f = let x = h (changed f p v) in (x.0, sym (side_at v s f) ∙ x.1)

pub truth_low : {t : Table} {node p low high : ℕ} → IsSides t node p low high → IsTruthTree (tree_of t node) →
    IsTruthTree (tree_of t low)
truth_low s h = truth_side false s h

pub truth_high : {t u : Table} {node p low high : ℕ} → Keeps t u → IsSides t node p low high →
    IsTruthTree (tree_of t node) → IsTruthTree (tree_of u high)
truth_high k s h = rw (k.same _ s.high_held) (truth_side true s h)

-- the disjunction of two nodes split at p is a test of p; its sides are the disjunction of the nodes' low sides, made
-- first, and that of their high sides
pub union_sides : {E F : Type 0} {t u v w : Table} {a b low high made : ℕ} {s : Split} → IsSplit t a b s →
    MakesTree {E = E} t u (Ok low) (IsUnion (tree_of t s.left.low) (tree_of t s.right.low)) →
    MakesTree {E = E} u v (Ok high) (IsUnion (tree_of u s.left.high) (tree_of u s.right.high)) →
    MakesTree {E = F} v w (Ok made) (IsTestOf s.proposition (tree_of v low) (tree_of v high)) →
    MakesTree {E = E} t w (Ok made) (IsUnion (tree_of t a) (tree_of t b))
union_sides {s = s} sides l h test =
    let sa = sides.first_sides in
    let sb = sides.second_sides in
    let k = l.keeps in
    let m = h.keeps in
    by-sides l h test (λ f. rw (sa.leaf f, sb.leaf f, test.leaf f) (elim (bool_cases (f s.proposition)) [
      | inl is ↦ rw (is, ← k.same _ sa.high_held, ← k.same _ sb.high_held) (h.leaf f)
      | inr is ↦ rw (is, m.same _ l.held) (l.leaf f)
    ]))

-- a final tree of truth values is its own disjunction with any other truth value
leaf_wins_at : (a b : Option ℕ) → IsOneOrNone a → IsOneOrNone b → {k : ℕ} → b ≡ Some k → b ≡ either_leaf a b
leaf_wins_at a b (true, e) (true, is) some = rw (e, is)
leaf_wins_at a b (false, e) h some = rw e
leaf_wins_at a b (true, e) (false, is) some = absurd (cc)

pub leaf_wins : {t : Tree} {k : ℕ} (f : ℕ → Bool) (a : Option ℕ) → t ≡ final k → IsOneOrNone a →
    IsOneOrNone (leaf_at t f) → leaf_at t f ≡ either_leaf a (leaf_at t f)
leaf_wins {t} {k} f a is h g = leaf_wins_at a (leaf_at t f) h g (ap (λ u. leaf_at u f) is)
