use Rattle.std.proofs.Common.{refl, arith, rules}
use Rattle.ps_measure.proofs.RaisedCounts.PassSteps.{grows_set, step_fits, step_counting, step_raised, step_enough}
use Rattle.ps_measure.proofs.RaisedCounts.PassSteps.{step_inside}
use Rattle.ps_measure.proofs.RaisedCounts.PassSteps.{step_lost}
use Rattle.ps_measure.proofs.column.Column.pass.Goals as goal

pub weight-weight-requires : goal.weight-weight-requires
weight-weight-requires g c = c.count-vertices.ensures.within c.args.from c.args.to c.requires.link

pub number-requires : goal.number-requires
number-requires g c =
    let within = c.count-vertices.ensures.within c.args.from c.args.to c.requires.link in
    omega (arith, within, c.requires.turn.counting.components.counted)

pub overflow_add-value : goal.overflow_add-value
overflow_add-value g c =
    let r = c.requires in
    grind (
      arith,
      step_fits c.args.low.now r.turn.counting r.link r.turn.number_is c.number.ensures c.unwrap_or-before.ensures
          c.weight-weight.ensures c.index.ensures c.if-before-number.true,
    )

pub returns-then-index-value-clause-raised : goal.returns-then-index-value-clause-raised
returns-then-index-value-clause-raised g c =
    record { counting = search (rules, step_counting); components = refl; grows = search (rules, grows_set) }

pub returns-then-index-value-clause-passed : goal.returns-then-index-value-clause-passed
returns-then-index-value-clause-passed g c = search (rules, step_raised)

pub returns-else-index-value-clause-passed : goal.returns-else-index-value-clause-passed
returns-else-index-value-clause-passed g c = search (rules, step_enough)

pub returns-else-before-number-clause-passed : goal.returns-else-before-number-clause-passed
returns-else-before-number-clause-passed g c = search (rules, step_inside)

pub returns-else-before-number-clause-lost : goal.returns-else-before-number-clause-lost
returns-else-before-number-clause-lost g c = search (rules, step_lost)
