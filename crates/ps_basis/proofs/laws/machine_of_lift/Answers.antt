use Rattle.ps_basis.proofs.MachineByRounds.{machine_by_rounds}
use Rattle.ps_basis.proofs.laws.machine_of_lift.Goals as goal

pub returns : goal.returns
returns c bases keys game arena lifted play m small is of fits valid lift sorted machine =
    machine_by_rounds bases keys game arena lifted play small is of fits valid lift sorted m machine
