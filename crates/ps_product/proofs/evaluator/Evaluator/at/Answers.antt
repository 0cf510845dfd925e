use Rattle.std.proofs.Common.{rules}
use Rattle.ps_simulate.proofs.EvaluationPlans.PlacesLemmas.{output_known}
use Rattle.ps_product.proofs.CircuitFunctions.LiteralTruths.{along_kept, nexts_known, truths_of_literals}
use Rattle.ps_product.proofs.CircuitFunctions.LiteralTruths.{wires_of_nexts, wires_within}
use Rattle.ps_product.proofs.evaluator.Evaluator.at.Goals as goal

pub truths_of-requires-clause-ready : goal.truths_of-requires-clause-ready
truths_of-requires-clause-ready c = record {
  site = record {
    is_circuit = c.outputs.ensures.well_formed;
    inputs = rw c.self.view_is c.requires.inputs;
    named = c.requires.named;
    latches = rw c.self.view_is c.requires.latches;
  };
  knows = search rules;
}

pub truths_of-requires-clause-within : goal.truths_of-requires-clause-within
truths_of-requires-clause-within c = rw c.outputs.ensures.wires
    (wires_within c.outputs.ensures.well_formed c.self.inside.net.outputs (output_known c.outputs.ensures.well_formed))

pub truths_of-requires-2-clause-ready : goal.truths_of-requires-2-clause-ready
truths_of-requires-2-clause-ready c = record {
  site = record {
    is_circuit = c.outputs.ensures.well_formed;
    inputs = rw c.self.view_is c.requires.inputs;
    named = rw c.truths_of.ensures.learns.keeps.propositions c.requires.named;
    latches = rw c.self.view_is c.requires.latches;
  };
  knows = c.truths_of.ensures.learns.knows;
}

pub truths_of-requires-2-clause-within : goal.truths_of-requires-2-clause-within
truths_of-requires-2-clause-within c = rw (c.nexts.ensures, wires_of_nexts c.self.inside.net c.self.inside.net.latches)
    (wires_within c.outputs.ensures.well_formed _ (nexts_known c.outputs.ensures.well_formed))

pub returns-clause-outcome : goal.returns-clause-outcome
returns-clause-outcome c = rw (← c.self.view_is) (record {
  outputs_are = truths_of_literals _ c.outputs.ensures.well_formed c.self.inside.net.outputs
      c.in_ok-outputs.outputs.items (output_known c.outputs.ensures.well_formed)
      (along_kept _ _ c.in_ok-outputs.outputs.items c.truths_of-2.ensures.learns.keeps
      (rw c.outputs.ensures.wires at c.in_ok-outputs.ensures.truths));
  nexts_are = truths_of_literals _ c.outputs.ensures.well_formed _ c.in_ok-nexts.nexts.items
      (nexts_known c.outputs.ensures.well_formed)
      (rw (c.nexts.ensures, wires_of_nexts c.self.inside.net c.self.inside.net.latches) at
      c.in_ok-nexts.ensures.truths);
})
