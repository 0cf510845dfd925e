-- Layers that two formulas have in common.
-- - `IsSharedBy first second s`: the nodes are the layer of s with its first operand, and with its second
-- - `IsSharedIn nodes first second s`: the same of two formulas of a table
use Rattle.std.specs.Prelude.{◌≡◌, ◌<◌, ℕ, List, length}
use Rattle.ps_formula.specs.Formulas.{formula_at}
use Rattle.ps_formula.specs.declared.node.Node.{Node}
use Rattle.ps_sentences.specs.Inner.Layers.{IsLayer, around, node_around}
use Rattle.ps_sentences.specs.declared.layers.Shared.{Shared}

pub record IsSharedBy (first second : Node) (s : Shared) : Type 0 where
  pub first_is : first ≡ node_around s.layer s.first
  pub second_is : second ≡ node_around s.layer s.second

pub record IsSharedIn (nodes : List Node) (first second : ℕ) (s : Shared) : Type 0 where
  pub layer : IsLayer nodes s.layer
  pub first_there : s.first < length nodes
  pub second_there : s.second < length nodes
  pub first_is : formula_at nodes first ≡ around nodes s.layer (formula_at nodes s.first)
  pub second_is : formula_at nodes second ≡ around nodes s.layer (formula_at nodes s.second)
