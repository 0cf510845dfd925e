use Rattle.ps_basis.proofs.LetterBases.{minimal_basis}
use Rattle.ps_basis.proofs.laws.minimal_sets_are_basis.Goals as goal

pub returns : goal.returns
returns c = minimal_basis
