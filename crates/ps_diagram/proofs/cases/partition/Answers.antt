use Rattle.std.proofs.Common.{arith, ◌∙◌, length, ◌<◌, sym, ◌≡◌, get_or}
use Rattle.std.proofs.lemmas.List.Filters.{FiltersInPlace-all, FiltersInPlace-more_no, FiltersInPlace-more_swap}
use Rattle.std.proofs.lemmas.List.Sorted.{IsPermutation-trans}
use Rattle.std.proofs.lemmas.List.{get_or_default}
use Rattle.ps_diagram.proofs.TreesFromData.CaseLists.{no_case}
use Rattle.ps_diagram.proofs.cases.partition.Goals as goal
use Rattle.ps_diagram.proofs.cases.partition.Goals.{then-allows, else-allows}

pub loop-place-preserved : goal.loop-place-preserved
loop-place-preserved c =
    let l = c.loop-place in
    let within : l.place < length l.cases = omega arith in
    let x = get_or l.cases l.place no_case in
    let at : x ≡ get_or l.cases l.place x = get_or_default l.cases l.place no_case x within in
    elim c.if-allows.branch [
      | then-allows w ↦ rw (w.cases-is, w.count-is) (record {
        same = IsPermutation-trans _ _ _ l.invariant.same w.swap.ensures.permutation;
        filters =
            FiltersInPlace-more_swap {x = x} l.invariant.filters within (sym c.allows.ensures ∙ w.if-allows.true) at
            w.swap.ensures.by_index;
      })
      | else-allows w ↦ rw (w.cases-is, w.count-is) (record {
        same = l.invariant.same;
        filters =
            FiltersInPlace-more_no {x = x} l.invariant.filters within (sym c.allows.ensures ∙ w.if-allows.false) at;
      })
    ]

pub returns-clause-front : goal.returns-clause-front
returns-clause-front c = FiltersInPlace-all c.loop-place.invariant.filters (omega arith)
