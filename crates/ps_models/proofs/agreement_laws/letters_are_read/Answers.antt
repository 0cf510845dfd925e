use Rattle.ps_models.proofs.ComparedAutomata.AgreementLemmas.{one_reading_there}
use Rattle.ps_models.proofs.agreement_laws.letters_are_read.Goals as goal

pub returns : goal.returns
returns c = λ own own_controllable f letter distinct are. one_reading_there own own_controllable f letter distinct are
