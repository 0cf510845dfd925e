-- The formulas of the sections in a table.
use Rattle.std.specs.Prelude.{◌≡◌, ℕ, List, map}
use Rattle.ps_formula.specs.declared.node.Node.{Node}
use Rattle.ps_tlsf.specs.Specifications as meanings
use Rattle.ps_tlsf.specs.SpecificationViews.{formula_in}
use Rattle.ps_tlsf.specs.Inner.Building.{AreIn, Keeps}
use Rattle.ps_tlsf.specs.declared.specification.SectionFormula.{SectionFormula}

abbrev pub root_of : SectionFormula → ℕ
root_of f = f.root

-- the table grows, and has the given formulas at their indices
pub record ArePlaced (old new : List Node) (list : List SectionFormula)
    (formulas : List meanings.SectionFormula) : Type 0 where
  pub keeps : Keeps old new
  pub valid : AreIn new (map root_of list)
  pub are : map (formula_in new) list ≡ formulas
