-- Products of literals, and the leaves of a diagram that is given by cases: a product and a leaf for each.
--
-- - `meets n product letter`: the literals of the product on the first n propositions are true at the letter
-- - `is_product e`: the expression is a conjunction of literals
-- - `IsLeafByCases holds cases other leaf`: the leaf of each case that holds, or `other` if no case holds
use Rattle.std.specs.Prelude.{◌≡◌, ℕ, zero, suc, ◌+◌, ◌&&◌, Bool, true, false, cond, Contains, List, Option, Some}
use Rattle.ps_label.specs.Expression.{Expression, Operands, all_of, alias, any_of, constant, last, more, not_of}
use Rattle.ps_label.specs.Expression.{proposition}
use Rattle.ps_label.specs.Truth.{is_in}
use Rattle.ps_diagram.specs.Letters.{assignment}
use Rattle.ps_diagram.specs.declared.cases.Case.{Case}
use Rattle.ps_diagram.specs.declared.products.Product.{Product}

-- whether a product allows a proposition to have a given truth value
abbrev pub allows : Product → ℕ → Bool → Bool
allows product p b = cond b (cond (is_in p product.negative) false true) (cond (is_in p product.positive) false true)

-- whether the rule `may` allows, for each of the `count` propositions from `level` on, the truth value that f gives to
-- the proposition
unfoldable pub all_allowed : (ℕ → Bool → Bool) → (ℕ → Bool) → (level count : ℕ) → Bool
all_allowed may f level zero = true
all_allowed may f level (suc count) = may level (f level) && all_allowed may f (level + 1) count

-- whether the literals of the first n propositions in the product are true at the letter
abbrev pub meets : ℕ → Product → ℕ → Bool
meets n product letter = all_allowed (allows product) (assignment letter) 0 n

abbrev pub is_proposition : Expression → Bool
is_proposition (proposition p) = true
is_proposition e = false

-- whether an expression is a conjunction of literals; each of its operands may itself be a conjunction of literals
abbrev mutual
  pub is_product : Expression → Bool
  is_product (constant b) = b
  is_product (proposition p) = true
  is_product (alias k) = false
  is_product (not_of e) = is_proposition e
  is_product (all_of es) = are_products es
  is_product (any_of es) = false

  pub are_products : Operands → Bool
  are_products last = true
  are_products (more e es) = is_product e && are_products es

-- The leaf is that of each case that holds, or `other` if no case holds. Cases that hold together have the same kind.
pub record IsLeafByCases (holds : Case → Bool) (cases : List Case) (other leaf : Option ℕ) : Type 0 where
  pub each : (case : Case) → Contains cases case → holds case ≡ true → leaf ≡ Some case.leaf
  pub none : ((case : Case) → Contains cases case → holds case ≡ true → ⊥) → leaf ≡ other
  pub kind : (one more : Case) → Contains cases one → Contains cases more → holds one ≡ true → holds more ≡ true →
      one.kind ≡ more.kind
