use Rattle.ps_machine.proofs.Machines.MachineThere.{machine_there}
use Rattle.ps_machine.proofs.laws.machine_is_there.Goals as goal

pub returns : goal.returns
returns c = machine_there
