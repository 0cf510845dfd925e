-- Nodes that are split into a low side and a high side at a proposition.
use Rattle.std.proofs.Common.{rules, ◌≡◌, ℕ, ◌+◌, ◌<◌, ◌≤◌, Bool, cond, Some, None, refl, arith, min}
use Rattle.std.proofs.lemmas.Bool.{cases_lt}
use Rattle.ps_diagram.specs.Tree.{Tree, empty, final, choice, leaf_at, IsFrom}
use Rattle.ps_diagram.specs.Table.{Table, IsNode, IsSoundTable, tree_of}
use Rattle.ps_diagram.specs.Inner.Parts.{IsChoice}
use Rattle.ps_diagram.specs.Split.{root_of, IsConstant, IsSides}
use Rattle.ps_diagram.proofs.Canon.{blind-from, changed, same_cond, side_leaf}

-- the two child nodes of a node that tests p are its sides at p
pub sides_of_test : {t : Table} {node p low high : ℕ} → IsChoice t node p low high → IsSides t node p low high
sides_of_test {t} {node} {p} {low} {high} h = search (rules, blind-from)

from_root : (n p : ℕ) (t : Tree) → IsFrom 0 n t → p < root_of n t → IsFrom (p + 1) n t
from_root n p t h k = search rules

pub sides_of_later : {t : Table} {node : ℕ} (p : ℕ) → IsSoundTable t → IsNode t node →
    p < root_of t.propositions (tree_of t node) → IsSides t node p node node
sides_of_later {t} {node} p s h lt = search (rules, blind-from, from_root, same_cond)

pub constant_root : (n : ℕ) (t : Tree) → IsFrom 0 n t → n ≤ root_of n t → IsConstant t
constant_root n empty o h = (None, (λ f. refl))
constant_root n (final k) o h = (Some k, (λ f. refl))
constant_root n (choice p low high) o h = absurd (omega arith)

-- at a letter f, the low side has the leaf that the node has if p is set to false in f; the high side has the leaf that
-- the node has if p is set to true
pub side_at : {t : Table} {node p low high : ℕ} (v : Bool) → IsSides t node p low high → (f : ℕ → Bool) →
    leaf_at (tree_of t node) (changed f p v) ≡ leaf_at (tree_of t (cond v high low)) f
side_at v h f = search (rules, side_leaf)

-- Nodes are numbers. The nodes `first` and `second` test the propositions a and b; x and y are sides of these nodes at
-- the smaller of a and b. A side is never greater than its node, and is less if the node tests this proposition. So the
-- sum of x and y is less than the sum of the two nodes.
pub falls : (a b : ℕ) {r : ℕ} (first second x y : ℕ) → r ≡ min a b → x ≤ first → y ≤ second → (a ≡ r → x < first) →
    (b ≡ r → y < second) → x + y < first + second
falls a b first second x y e hx hy lx ly = search (rules, cases_lt)
