use Rattle.std.proofs.Common.{length, rules, arith}
use Rattle.std.proofs.lemmas.List.{get_or_default}
use Rattle.ps_simulate.proofs.EvaluationPlans.LanePlanLemmas.{all_done, gate_on, gate_fits}
use Rattle.ps_simulate.proofs.lanes.work_words.Goals as goal

pub loop-number-preserved : goal.loop-number-preserved
loop-number-preserved c lane lt = grind (arith, get_or_default, gate_on)

pub bits-requires : goal.bits-requires
bits-requires c =
    let fits = gate_fits c.args.front (length c.args.values.now) c.args.gates.now c.loop-number.number
    c.loop-number-test.true c.requires.within in
    grind (arith, get_or_default)

pub bits-requires-in-loop-number : goal.bits-requires-in-loop-number
bits-requires-in-loop-number c =
    let fits = gate_fits c.args.front (length c.args.values.now) c.args.gates.now c.loop-number.number
    c.loop-number-test.true c.requires.within in
    grind (arith, get_or_default)

pub returns : goal.returns
returns c lane lt = search (rules, all_done)
