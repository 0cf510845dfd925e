use Rattle.std.specs.List.Sorted.{IsPermutation}
use Rattle.std.proofs.lemmas.List.Filters.{FiltersInPlace}
use Rattle.ps_diagram.specs.Products.{allows}
use Rattle.ps_diagram.proofs.cases.partition.Given as goal

abbrev pub invariant-loop-place : goal.invariant-loop-place
invariant-loop-place l = record {
  same : IsPermutation l.fn.cases l.cases;
  filters : FiltersInPlace (λ case. allows case.product l.proposition l.value) l.fn.cases l.cases l.count l.place;
}
