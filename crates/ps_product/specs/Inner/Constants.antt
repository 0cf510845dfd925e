-- The diagrams of the two constant functions, false at every letter and true at every letter.
use Rattle.std.specs.Prelude.{◌≡◌, ℕ, None, Some}
use Rattle.ps_diagram.specs.Table.{Table, IsNode, leaf_of}

pub record HasConstants (t : Table) (none one : ℕ) : Type 0 where
  pub none_held : IsNode t none
  pub one_held : IsNode t one
  pub none_leaf : (letter : ℕ) → leaf_of t none letter ≡ None
  pub one_leaf : (letter : ℕ) → leaf_of t one letter ≡ Some 1
