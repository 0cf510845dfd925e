use Rattle.ps_basis.proofs.LetterBases.{sets_basis}
use Rattle.ps_basis.proofs.laws.sets_are_basis.Goals as goal

pub returns : goal.returns
returns c = sets_basis
