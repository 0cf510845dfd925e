use Rattle.ps_simulate.proofs.Stimuli.SomeStimulus.{some_stimulus}
use Rattle.ps_simulate.proofs.stimulus.stimulus_text_has_some_answer.Goals as goal

pub returns : goal.returns
returns c = some_stimulus
