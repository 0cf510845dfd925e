use Rattle.std.proofs.Common.{arith, sym}
use Rattle.std.proofs.lemmas.Result.{IfErr-weaker}
use Rattle.ps_hoa.proofs.Soundness.SoundLaws.{row_of_state}
use Rattle.ps_hoa.specs.Views.{row_data}
use Rattle.ps_automaton.proofs.StepsByState.StateSteps.{fault_of_state}
use Rattle.ps_automaton.proofs.draft.state_node.Goals as goal

pub row_node-requires : goal.row_node-requires
row_node-requires c = grind (
  arith,
  row_of_state c.args.source.now.file.now c.row.ensures.well_formed
      c.args.state (row_data c.in-Some.row.now) (sym c.in-Some.ensures.value),
)

pub returns-clause-refused : goal.returns-clause-refused
returns-clause-refused c =
    let file = c.args.source.now.file.now in
    let row = row_data c.in-Some.row.now in
    IfErr-weaker c.row_node.result _ _ (λ f h. fault_of_state file (sym c.in-Some.ensures.value)
    (row_of_state file c.row.ensures.well_formed c.args.state row (sym c.in-Some.ensures.value)).1 f h)
    c.row_node.ensures.refused
