use Rattle.ps_basis.proofs.LetterBases.{classes_basis}
use Rattle.ps_basis.proofs.laws.classes_are_basis.Goals as goal

pub returns : goal.returns
returns c = classes_basis
