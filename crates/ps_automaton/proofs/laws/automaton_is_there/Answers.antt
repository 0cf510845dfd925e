use Rattle.ps_automaton.proofs.AdmittedFiles.Existing.{auto_there}
use Rattle.ps_automaton.proofs.laws.automaton_is_there.Goals as goal

pub returns : goal.returns
returns c = auto_there
