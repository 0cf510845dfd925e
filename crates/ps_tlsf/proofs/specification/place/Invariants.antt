use Rattle.std.proofs.Common.{map, take}
use Rattle.ps_tlsf.specs.Specifications.{section_formula}
use Rattle.ps_tlsf.specs.Inner.Placing.{ArePlaced}
use Rattle.ps_tlsf.specs.Inner.StateViews.{written_data}
use Rattle.ps_tlsf.proofs.specification.place.Given as goal

abbrev pub invariant-loop-formula : goal.invariant-loop-formula
invariant-loop-formula l =
    ArePlaced l.fn.table l.table l.list.items
    (map section_formula (map written_data (take l.formula-index l.formulas)))
