-- If-then-else of trees: at each letter, a tree decides from which of two other trees the leaf is taken.
use Rattle.std.proofs.Common.{ℕ, Ok, Option, inl, inr, rules}
use Rattle.ps_diagram.specs.Inner.Chosen.{IsChosen, IsCut, KnowsTriples}
use Rattle.ps_diagram.specs.Inner.Rests.{test_eq}
use Rattle.ps_diagram.specs.declared.choose.Cut.{Cut}
use Rattle.ps_diagram.specs.Tree.{Tree, IsTestOf}
use Rattle.ps_diagram.specs.Table.{Table, IsNode, Keeps, MakesTree, tree_of}
use Rattle.ps_diagram.proofs.NodeTables.Cells.{bool_cases}
use Rattle.ps_diagram.proofs.ClassesOfLetters.Dividing.{test_same}
use Rattle.ps_diagram.proofs.NodeTables.KnownLemmas.{MayBePut, one_more}
use Rattle.ps_diagram.proofs.NodeTables.MadeDiagrams.{by-sides}

-- the if-then-else of three nodes split at p is a test of p; its sides are the if-then-else of the nodes' low sides,
-- made first, and that of their high sides
pub chosen_sides : {E : Type 0} {t u v w : Table} {a b c low high made : ℕ} {s : Cut} → IsCut t a b c s →
    MakesTree {E = E} t u (Ok low) (IsChosen (tree_of t s.truth.low) (tree_of t s.one.low) (tree_of t s.other.low)) →
    MakesTree {E = E} u v (Ok high) (IsChosen (tree_of u s.truth.high) (tree_of u s.one.high)
    (tree_of u s.other.high)) →
    MakesTree {E = E} v w (Ok made) (IsTestOf s.proposition (tree_of v low) (tree_of v high)) →
    MakesTree {E = E} t w (Ok made) (IsChosen (tree_of t a) (tree_of t b) (tree_of t c))
chosen_sides {s = s} sides l h test =
    let sa = sides.truth_sides in
    let sb = sides.one_sides in
    let sc = sides.other_sides in
    let k = l.keeps in
    let m = h.keeps in
    by-sides l h test (λ f. rw (sa.leaf f, sb.leaf f, sc.leaf f, test.leaf f) (elim (bool_cases (f s.proposition)) [
      | inl is ↦ rw (is, ← k.same _ sa.high_held, ← k.same _ sb.high_held, ← k.same _ sc.high_held) (h.leaf f)
      | inr is ↦ rw (is, m.same _ l.held) (l.leaf f)
    ]))

-- the if-then-else with the same tree for both cases is this tree
pub chosen_same : (a b : Tree) → IsChosen a b b b
chosen_same a b f = search rules

pub triples_kept : {t u : Table} (known : ℕ × ℕ × ℕ → Option ℕ) → Keeps t u → KnowsTriples t known →
    KnowsTriples u known
triples_kept known k h a b c made e =
    let r = h a b c made e in (
      k.held a r.0,
      k.held b r.1,
      k.held c r.2,
      k.held made r.3,
      rw (k.same a r.0, k.same b r.1, k.same c r.2, k.same made r.3) r.4,
    )

pub triples_put : {E : Type 0} {s u t : Table} (known new : ℕ × ℕ × ℕ → Option ℕ) {x y z value : ℕ} →
    MayBePut test_eq known new (x, y, z) value → Keeps u t → KnowsTriples u known →
    IsNode s x → IsNode s y → IsNode s z →
    MakesTree {E = E} s t (Ok value) (IsChosen (tree_of s x) (tree_of s y) (tree_of s z)) → KnowsTriples t new
triples_put {t = t} known new update k h hx hy hz m a b c =
    let j = m.keeps in
    one_more (λ q v. IsNode t q.0 × IsNode t q.1 × IsNode t q.2 × IsNode t v ×
    IsChosen (tree_of t q.0) (tree_of t q.1) (tree_of t q.2) (tree_of t v)) test_eq test_same known new update
    (λ q. triples_kept known k h q.0 q.1 q.2)
    (j.held _ hx, j.held _ hy, j.held _ hz, m.held, rw (j.same _ hx, j.same _ hy, j.same _ hz) m.leaf) (a, b, c)
