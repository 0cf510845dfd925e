use Rattle.std.proofs.Common.{arith}
use Rattle.ps_simulate.proofs.Stimuli.StimulusLines.{lines_of-drop}
use Rattle.ps_simulate.proofs.stimulus.line_end.Goals as goal

pub returns : goal.returns
returns c = record {
  from = omega arith;
  within = grind arith;
  lines = lines_of-drop c.args.text.now c.args.start c.requires c.run_length.ensures.length;
}
