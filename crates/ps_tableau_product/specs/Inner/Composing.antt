-- Diagrams that are composed from those of another store.
use Rattle.std.specs.Prelude.{◌≡◌, ℕ, ◌≤◌, All, List, Some, length, nat_eq}
use Rattle.ps_diagram.specs.Composing.{IsLetterOfTruths}
use Rattle.ps_diagram.specs.Table.{IsNode, Table, leaf_of}
use Rattle.ps_keys.specs.Keys.{value_for}
use Rattle.ps_tableau_product.specs.declared.composed.Composed.{Composed}

-- the node `made` has the leaves of a node of the other store at the letters that the truths form
pub record IsComposedNode (t : Table) (truths : List ℕ) (other : Table) (node made : ℕ) : Type 0 where
  pub known : IsNode other node
  pub held : IsNode t made
  pub leaf : (letter whole : ℕ) → IsLetterOfTruths t truths letter whole →
      leaf_of t made letter ≡ leaf_of other node whole

-- each proposition of the other store has its truth, and each node that was asked for its diagram
pub record AreComposed (t other : Table) (c : Composed) : Type 0 where
  pub one_each : other.propositions ≤ length c.truths.items
  pub held : All (IsNode t) c.truths.items
  pub known : (node made : ℕ) → value_for nat_eq c.known node ≡ Some made →
      IsComposedNode t c.truths.items other node made
