use Rattle.std.proofs.Common.{◌≡◌, ◌∙◌, length, arith}
use Rattle.ps_simulate.specs.Lanes.{lane_of}
use Rattle.ps_simulate.proofs.EvaluationPlans.LaneLemmas.{same_lane, length-lane}
use Rattle.ps_simulate.proofs.lanes.fill_words.Goals as goal

pub returns : goal.returns
returns c lane lt =
    let before = c.args.values.now in
    let table = c.put_words-2.new.values in
    let inputs = c.args.inputs.now in
    let latches = c.args.latches.now in
    let each : length table ≡ length before = omega (arith, c.put_words-2.auto.values, c.put_words.auto.values) in
    record {
      table = lane_of table lane;
      each = length-lane table lane ∙ each;
      holds = record {
        constant = same_lane table before 0 0 lane (omega (arith, each, c.requires.room))
            (omega (arith, c.requires.room)) (grind arith) ∙ c.requires.constant lane lt;
        inputs_there = grind (arith, length-lane, same_lane);
        latches_there = grind (arith, length-lane, same_lane);
      };
      done = c.work_words.ensures lane lt;
    }
