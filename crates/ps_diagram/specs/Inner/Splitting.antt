-- A diagram by cases is made by splitting the list of cases at one proposition after another. (For private functions.)
use Rattle.std.specs.Prelude.{◌≡◌, ℕ, ◌-◌, ◌<◌, ◌≤◌, Bool, true, cond, Contains, List}
use Rattle.ps_diagram.specs.Products.{IsLeafByCases, all_allowed, allows}
use Rattle.ps_diagram.specs.Table.{Table, IsNode, tree_of}
use Rattle.ps_diagram.specs.Tree.{Tree, leaf_at, IsBlind}
use Rattle.ps_diagram.specs.declared.cases.Case.{Case}
use Rattle.ps_diagram.specs.declared.products.Product.{Product}

-- whether the literals of the case on the propositions from `level` on are true at f
abbrev pub holds_from : (n level : ℕ) → (ℕ → Bool) → Case → Bool
holds_from n level f case = all_allowed (allows case.product) f level (n - level)

-- the node depends only on propositions from `level` on; its leaves are those of the cases, of which only the literals
-- on these propositions count, and elsewhere those of the tree `other`
pub record IsByCases (t : Table) (level : ℕ) (cases : List Case) (other : Tree) (node : ℕ) : Type 0 where
  pub held : IsNode t node
  pub later : IsBlind level (tree_of t node)
  pub leaf : (f : ℕ → Bool) → IsLeafByCases (holds_from t.propositions level f) cases (leaf_at other f)
      (leaf_at (tree_of t node) f)

-- no case has a literal on a proposition that is at least `level` and less than p
abbrev pub AreUntested : (level p : ℕ) → List Case → Type 0
AreUntested level p cases =
    (case : Case) → Contains cases case → (q : ℕ) → level ≤ q → q < p → (b : Bool) → allows case.product q b ≡ true

-- the tree has the leaf of the tree `hit` at letters that meet all literals of the product on propositions that are at
-- least `level` and less than n, and the leaf of the tree `miss` at other letters
pub record IsProduct (n level : ℕ) (product : Product) (hit miss t : Tree) : Type 0 where
  pub leaf : (f : ℕ → Bool) →
      leaf_at t f ≡ cond (all_allowed (allows product) f level (n - level)) (leaf_at hit f) (leaf_at miss f)
