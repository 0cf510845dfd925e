use Rattle.ps_machine.proofs.Machines.Diagrams.StoredClasses.{all_divided}
use Rattle.ps_machine.proofs.game.game_by_diagrams.Goals as goal

pub returns-clause-classes : goal.returns-clause-classes
returns-clause-classes c = (let said = c.in_ok-listed.ensures in
    rw c.into_divided.ensures (all_divided said.fits said.divided))
