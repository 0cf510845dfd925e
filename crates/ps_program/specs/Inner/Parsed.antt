-- What holds of each specification that is parsed.
use Rattle.std.specs.Prelude.{map}
use Rattle.ps_simulate.specs.Symbols.{AreDistinct}
use Rattle.ps_tlsf.specs.NameViews.{name_data}
use Rattle.ps_tlsf.specs.Names.{names_in}
use Rattle.ps_tlsf.specs.SpecificationViews.{HasRoots}
use Rattle.ps_tlsf.specs.declared.specification.Specification.{Specification}

-- its formulas are in its table, and its propositions have different names
pub record IsParsed (s : Specification) : Type 0 where
  pub roots : HasRoots s
  pub distinct : AreDistinct (names_in (map name_data s.propositions.items))
