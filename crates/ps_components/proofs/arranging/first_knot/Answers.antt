use Rattle.std.proofs.Common.{◌≡◌, arith, rules, below_more}
use Rattle.ps_components.proofs.arranging.first_knot.Goals as goal

pub returns-then-eq-clause-knot : goal.returns-then-eq-clause-knot
returns-then-eq-clause-knot g c =
    let same : c.number-there.result ≡ c.number-here.result = search (rules, c.if-eq.ensures, c.eq.ensures) in
    let met = c.requires.met c.loop-item.item (omega (arith, c.loop-item-test.true, c.count-item-end.ensures)) in
    grind arith

pub loop-item-preserved : goal.loop-item-preserved
loop-item-preserved g c = below_more _ _ c.loop-item.invariant (λ knot. c.loop-place.invariant knot.link.place knot.to
    knot.number (omega (arith, knot.link.at, c.degree-place-end.ensures, c.loop-place-test.false)) knot.link.target
    knot.here knot.there)

pub returns-clause-none : goal.returns-clause-none
returns-clause-none g c = λ i lt k. c.loop-item.invariant i (omega arith) k
