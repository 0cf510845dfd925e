use Rattle.ps_machine.proofs.Uniqueness.OneMachine.{one_machine}
use Rattle.ps_machine.proofs.laws.one_machine.Goals as goal

pub returns : goal.returns
returns c = one_machine
