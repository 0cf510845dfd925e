use Rattle.ps_tableau.proofs.CoversOfSets.WrongCovers.{end_alone_is_not_usable, not_postponing_is_not_enough}
use Rattle.ps_tableau.proofs.laws.wrong_covers_are_none.Goals as goal

pub returns-clause-postponing : goal.returns-clause-postponing
returns-clause-postponing c = not_postponing_is_not_enough

pub returns-clause-second_way : goal.returns-clause-second_way
returns-clause-second_way c = end_alone_is_not_usable
