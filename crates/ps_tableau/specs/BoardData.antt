-- What contracts see of a board.
use Rattle.std.specs.Prelude.{ℕ, Bool, List, Vec}
use Rattle.std.specs.Global.{Global}
use Rattle.ps_diagram.specs.Table.{Table}
use Rattle.ps_formula.specs.declared.normal_node.NormalNode.{NormalNode}

-- a table of formulas; whether each of them may be in a set; the untils that may be postponed; the set that a tableau
-- begins with; all sets; and the diagrams of guards
pub record BoardData : Type 0 where
  pub formulas : List NormalNode
  pub needed : Vec Bool Global
  pub untils : Vec ℕ Global
  pub initial : ℕ
  pub sets : List (ℕ × ℕ)
  pub guards : Table
