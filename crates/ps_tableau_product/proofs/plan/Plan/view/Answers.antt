use Rattle.std.proofs.Common.{sym, ◌∙◌}
use Rattle.ps_product.proofs.CircuitFunctions.TimingLemmas.{truths_are}
use Rattle.ps_tableau_product.proofs.TableauStates.Scenes.{roles_given}
use Rattle.ps_tableau_product.proofs.plan.Plan.view.Goals as goal

pub diagrams-requires-clause-outputs : goal.diagrams-requires-clause-outputs
diagrams-requires-clause-outputs c = truths_are c.in_ok-evaluated.evaluated.outcome.outputs.items _
    c.in_ok-evaluated.ensures.outcome.outputs_are

pub diagrams-requires-clause-nexts : goal.diagrams-requires-clause-nexts
diagrams-requires-clause-nexts c = truths_are c.in_ok-evaluated.evaluated.outcome.nexts.items _
    c.in_ok-evaluated.ensures.outcome.nexts_are

pub diagrams-requires-clause-one_each : goal.diagrams-requires-clause-one_each
diagrams-requires-clause-one_each c =
    let is = c.parts_fit.ensures in
    c.in_ok-evaluated.ensures.outcome.outputs_are.one_each ∙ sym is.draft.outputs_named
    ∙ sym (roles_given c.args.self.cast).outputs_each
