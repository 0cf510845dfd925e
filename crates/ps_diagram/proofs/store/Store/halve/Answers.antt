use Rattle.std.proofs.Common.{◌≡◌, ◌^◌, arith, length, min, refl}
use Rattle.ps_diagram.proofs.TreesFromData.Halving.{all_tests, half_leads, half_row}
use Rattle.ps_diagram.proofs.store.Store.halve.Goals as goal

pub returns-clause-row : goal.returns-clause-row
returns-clause-row c =
    let h = c.args.height in
    let last : c.loop-place.place ≡ c.min-count.result = omega arith in
    let done : c.loop-place.place ≡ min (length c.args.nodes.now.items) (2 ^ h) = grind arith in
    half_row h c.requires.row c.loop-place.invariant.keeps
    (all_tests h c.power-half.ensures.value done c.loop-place.invariant.tests (rw last c.truncate.ensures.items))

pub returns-clause-leads : goal.returns-clause-leads
returns-clause-leads c =
    let h = c.args.height in
    let last : c.loop-place.place ≡ c.min-count.result = omega arith in
    let done : c.loop-place.place ≡ min (length c.args.nodes.now.items) (2 ^ h) = grind arith in
    half_leads h c.requires.row c.loop-place.invariant.keeps
    (all_tests h c.power-half.ensures.value done c.loop-place.invariant.tests (rw last c.truncate.ensures.items))
    c.args.first refl
