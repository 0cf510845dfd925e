use Rattle.std.proofs.Common.{false}
use Rattle.ps_simulate.specs.Faults.{cause_number, cause_name}
use Rattle.ps_simulate.specs.Stimuli.{stem_of}
use Rattle.ps_program.specs.Refusals.{IsRefusalOf}
use Rattle.ps_program.specs.Texts.{ReadsStimulusText}
use Rattle.ps_program.proofs.ByCommand.CircuitLemmas.{letters_fault}
use Rattle.ps_program.proofs.ByCommand.OutcomeLemmas.{gives_handed}
use Rattle.ps_program.proofs.texts.read_letters.Goals as goal

pub returns-in_err-parse_letters : goal.returns-in_err-parse_letters
returns-in_err-parse_letters c =
    let fault = c.in_err-parse_letters.field-0.0 in
    gives_handed stem_of (ReadsStimulusText c.args.width false c.args.text.now) c.from_residual.result
    (IsRefusalOf cause_number cause_name fault) c.from_residual.ensures.1
    (λ refused same. letters_fault c.args.text.now c.args.width fault refused c.in_err-parse_letters.ensures same)
