use Rattle.std.proofs.Common.{rules}
use Rattle.std.proofs.lemmas.Fn.{filter_same}
use Rattle.ps_simulate.proofs.EvaluationPlans.RowLemmas.{IsScheduled-rows}
use Rattle.ps_simulate.proofs.EvaluationPlans.StepLemmas.{nexts_within, outputs_within, rows_within}
use Rattle.ps_simulate.proofs.needed.plan_of_needed.Goals as goal

pub needed_places-requires-clause-rows : goal.needed_places-requires-clause-rows
needed_places-requires-clause-rows c =
    let made = c.in_ok-plan.ensures in rw (made.size_is) (rows_within made.rows_are.is_circuit made)

pub needed_places-requires-clause-outputs : goal.needed_places-requires-clause-outputs
needed_places-requires-clause-outputs c =
    let made = c.in_ok-plan.ensures in rw (made.size_is) (outputs_within made.rows_are.is_circuit made)

pub needed_places-requires-clause-nexts : goal.needed_places-requires-clause-nexts
needed_places-requires-clause-nexts c =
    let made = c.in_ok-plan.ensures in rw (made.size_is) (nexts_within made.rows_are.is_circuit made)

pub needed_places-requires-clause-scheduled : goal.needed_places-requires-clause-scheduled
needed_places-requires-clause-scheduled c =
    let made = c.in_ok-plan.ensures in IsScheduled-rows made.rows_are.is_circuit made.rows_are

pub returns : goal.returns
returns c = (
  c.in_ok-plan.plan,
  c.in_ok-plan.ensures,
  record {
    needed = c.in_ok-needed.needed.items;
    are_needed = c.in_ok-needed.ensures;
    size_is = search rules;
    rows_are = filter_same _ _ _ (λ x b f' k. search rules) _ _ c.retain.ensures.filtered;
    outputs_are = search rules;
    nexts_are = search rules;
  },
)
