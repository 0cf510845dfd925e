-- What a specification means.
-- - `Specification`: its title, its propositions, the order of moves, whether it is strict, the formulas of its
--   sections, each with its span, and the formula of the whole
-- - `specification_of state`: the meaning of a text that was read to its end
use Rattle.std.specs.Prelude.{Bool, List, map, Option, None, Some}
use Rattle.ps_formula.specs.Formulas.{Formula}
use Rattle.ps_tlsf.specs.Names.{Name}
use Rattle.ps_tlsf.specs.Steps.{State, Written}
use Rattle.ps_tlsf.specs.Trees.{value_of}
use Rattle.ps_tlsf.specs.Wholes.{whole_ops}
use Rattle.ps_tlsf.specs.declared.heading.Span.{Span}
use Rattle.ps_tlsf.specs.declared.words.Order.{Order}
use Rattle.ps_tlsf.specs.declared.words.Order.TheVariants as orders
use Rattle.ps_tlsf.specs.declared.words.Section.{Section}

-- a formula of a section: its bytes are from the offset `start` up to `stop`
pub record SectionFormula : Type 0 where
  pub section : Section
  pub span : Span
  pub formula : Formula

pub record Specification : Type 0 where
  pub title : Option Span
  pub names : List Name
  pub order : Order
  pub is_strict : Bool
  pub formulas : List SectionFormula
  pub whole : Formula

abbrev pub section_formula : Written → SectionFormula
section_formula w = record {
  section = w.section;
  span = record { start = w.start; stop = w.stop };
  formula = value_of w.ops;
}

-- a text that was read to its end has an order
abbrev pub order_of : Option Order → Order
order_of None = orders.Mealy
order_of (Some order) = order

abbrev pub specification_of : State → Specification
specification_of s = record {
  title = s.heading.title;
  names = s.names;
  order = order_of s.heading.target;
  is_strict = s.heading.is_strict;
  formulas = map section_formula s.formulas;
  whole = value_of (whole_ops s.heading.is_strict s.formulas);
}
