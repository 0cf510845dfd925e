use Rattle.ps_automaton.proofs.ChainsOfSets.ChainLaws.{greatest_decides}
use Rattle.ps_automaton.proofs.laws.greatest_level_decides.Goals as goal

pub returns : goal.returns
returns c = greatest_decides
