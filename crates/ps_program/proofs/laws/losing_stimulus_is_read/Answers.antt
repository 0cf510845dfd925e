use Rattle.ps_program.proofs.Exchanged.PrintedStimuli.{stimulus_read}
use Rattle.ps_program.proofs.laws.losing_stimulus_is_read.Goals as goal

pub returns : goal.returns
returns c = record {
  automaton = λ order role file circuit s loses. stimulus_read circuit s loses.wide;
  specification = λ role spec circuit s loses. stimulus_read circuit s loses.wide;
}
