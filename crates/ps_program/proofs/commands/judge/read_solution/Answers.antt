use Rattle.ps_certificate.specs.Faults.{cause_number, cause_name}
use Rattle.ps_solution.specs.Reading.{ReadsSolution}
use Rattle.ps_solution.specs.Solved.{SolutionData}
use Rattle.ps_program.proofs.ByCommand.OutcomeLemmas.{gives_fault}
use Rattle.ps_program.proofs.commands.judge.read_solution.Goals as goal

pub returns-in-Err-clause-read : goal.returns-in-Err-clause-read
returns-in-Err-clause-read c = gives_fault {X = SolutionData} {V = SolutionData} cause_number cause_name
    (ReadsSolution c.args.game.now.ids c.args.text.now) (λ solution. solution) c.in-Err.fault c.from.result
    c.in-Err.ensures.answer c.from.ensures
