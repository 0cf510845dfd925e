use Rattle.ps_basis.proofs.MachineAlong.{machine_along}
use Rattle.ps_basis.proofs.laws.counts_do_not_matter.Goals as goal

pub returns : goal.returns
returns c board mover keys game one other m is same machine =
    machine_along board mover keys game is one other m same machine
