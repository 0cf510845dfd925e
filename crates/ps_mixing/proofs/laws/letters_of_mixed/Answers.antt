use Rattle.ps_mixing.proofs.MixedTraces.{letters_there, letters_unmoved}
use Rattle.ps_mixing.proofs.laws.letters_of_mixed.Goals as goal

pub returns : goal.returns
returns c file mixing is circuit moments letters = (
  letters_there file mixing is circuit moments letters,
  letters_unmoved file mixing is circuit moments letters,
)
