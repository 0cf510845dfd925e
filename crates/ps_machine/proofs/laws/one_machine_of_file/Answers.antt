use Rattle.ps_machine.proofs.Uniqueness.OneFileMachine.{one_machine_of_file}
use Rattle.ps_machine.proofs.laws.one_machine_of_file.Goals as goal

pub returns : goal.returns
returns c = one_machine_of_file
