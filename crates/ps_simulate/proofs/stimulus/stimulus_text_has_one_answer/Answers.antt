use Rattle.ps_simulate.proofs.Stimuli.OneStimulus.{one_answer}
use Rattle.ps_simulate.proofs.stimulus.stimulus_text_has_one_answer.Goals as goal

pub returns : goal.returns
returns c = one_answer
