-- The edges of a state whose labels are conjunctions of literals, as the cases of the diagram of the state's steps.
-- (For private functions.)
use Rattle.std.specs.Prelude.{◌≡◌, ◌↔◌, ℕ, IsTrue, List, length, Some, slice_get}
use Rattle.ps_diagram.specs.Products.{meets}
use Rattle.ps_diagram.specs.declared.cases.Case.{Case}
use Rattle.ps_diagram.specs.declared.products.Product.{Product}
use Rattle.ps_hoa.specs.Edges.{IsTaken}
use Rattle.ps_hoa.specs.Files.{EdgeData, FileData, RowData}
use Rattle.ps_hoa.specs.Sound.{IsLabelOf}
use Rattle.ps_label.specs.Expression.{Expression}
use Rattle.ps_label.specs.Truth.{label_truth}
use Rattle.ps_automaton.specs.declared.targets.Target.{Target}

-- the expression is the label of the edge, by the edge's own label or by that of its state
pub record IsEdgeLabel (file : FileData) (row : RowData) (edge : EdgeData) (e : Expression) : Type 0 where
  pub within : IsLabelOf file e
  pub taken : (letter : ℕ) → (IsTrue (label_truth file.aliases letter e) ↔ IsTaken file row edge letter)

-- the edge is taken at exactly the letters at which the product is true
pub record IsProductOf (file : FileData) (row : RowData) (edge : EdgeData) (product : Product) : Type 0 where
  pub taken : (letter : ℕ) → (IsTrue (meets (length file.names) product letter) ↔ IsTaken file row edge letter)

-- for each edge of the row, `products` has a product that is true at exactly the letters at which the edge is taken
pub record AreProducts (file : FileData) (row : RowData) (products : List Product) : Type 0 where
  pub one_each : length products ≡ length row.edges
  pub each : (k : ℕ) (edge : EdgeData) (product : Product) → slice_get row.edges k ≡ Some edge →
      slice_get products k ≡ Some product → IsProductOf file row edge product

-- each of the first `count` cases has the product, the leaf, and the acceptance sets as its kind, that the lists have
-- at its index
pub record AreCases (count : ℕ) (products : List Product) (places : List ℕ) (targets : List Target) (cases : List Case)
    :
    Type 0 where
  pub one_each : length cases ≡ count
  pub product : (k : ℕ) (case : Case) → slice_get cases k ≡ Some case → slice_get products k ≡ Some case.product
  pub leaf : (k : ℕ) (case : Case) → slice_get cases k ≡ Some case → slice_get places k ≡ Some case.leaf
  pub kind : (k : ℕ) (case : Case) (target : Target) → slice_get cases k ≡ Some case →
      slice_get targets k ≡ Some target → case.kind ≡ target.sets
