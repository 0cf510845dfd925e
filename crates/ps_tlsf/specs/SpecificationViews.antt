-- The meaning that a value of the code stands for.
use Rattle.std.specs.Prelude.{◌<◌, ◌≤◌, List, length, map, Result, Ok, Err}
use Rattle.std.specs.List.{AllByRecursion}
use Rattle.ps_formula.specs.Formulas.{formula_at}
use Rattle.ps_formula.specs.declared.node.Node.{Node}
use Rattle.ps_tlsf.specs.Causes.{TlsfFault}
use Rattle.ps_tlsf.specs.NameViews.{name_data}
use Rattle.ps_tlsf.specs.Specifications as meanings
use Rattle.ps_tlsf.specs.declared.specification.SectionFormula.{SectionFormula}
use Rattle.ps_tlsf.specs.declared.specification.Specification.{Specification}

abbrev pub formula_in : List Node → SectionFormula → meanings.SectionFormula
formula_in nodes f = record { section = f.section; span = f.span; formula = formula_at nodes f.root }

abbrev pub specification_data : Specification → meanings.Specification
specification_data s = record {
  title = s.title;
  names = map name_data s.propositions.items;
  order = s.order;
  is_strict = s.is_strict;
  formulas = map (formula_in s.table) s.formulas.items;
  whole = formula_at s.table s.root;
}

abbrev pub result_data : Result Specification TlsfFault → Result meanings.Specification TlsfFault
result_data (Ok s) = Ok (specification_data s)
result_data (Err fault) = Err fault

-- the roots are indices of formulas in the table, and there are at most 64 propositions
pub record HasRoots (s : Specification) : Type 0 where
  pub whole : s.root < length s.table
  pub each : AllByRecursion (λ f. f.root < length s.table) s.formulas.items
  pub few : length s.propositions.items ≤ 64
