use Rattle.ps_simulate.specs.Faults.{cause_number, cause_name}
use Rattle.ps_simulate.specs.Stimuli.{StimulusData}
use Rattle.ps_simulate.specs.StimulusTexts.{ReadsStimulus}
use Rattle.ps_program.proofs.ByCommand.OutcomeLemmas.{gives_parsed}
use Rattle.ps_program.proofs.texts.read_stimulus.Goals as goal

pub returns-in_err-parse_stimulus : goal.returns-in_err-parse_stimulus
returns-in_err-parse_stimulus c = gives_parsed {X = StimulusData} {V = StimulusData} cause_number cause_name
    (ReadsStimulus c.args.text.now c.args.width c.args.split) (λ stimulus. stimulus) c.in_err-parse_stimulus.field-0.0
    c.from_residual.result c.in_err-parse_stimulus.ensures c.from_residual.ensures.1
