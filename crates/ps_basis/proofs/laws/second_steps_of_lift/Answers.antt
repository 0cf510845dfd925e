use Rattle.ps_basis.proofs.ArenaSteps.{second_steps}
use Rattle.ps_basis.proofs.laws.second_steps_of_lift.Goals as goal

pub returns : goal.returns
returns c board bases mover keys others order game arena certificate lifted small is of fits valid lift =
    second_steps board bases mover keys others order game arena certificate lifted small is of fits valid lift
