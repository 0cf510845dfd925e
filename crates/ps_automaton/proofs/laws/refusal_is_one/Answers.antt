use Rattle.ps_automaton.proofs.AdmittedFiles.OneRefusal.{admitted_apart, one_refusal}
use Rattle.ps_automaton.proofs.AdmittedFiles.Deciding.{admitted_or_refused}
use Rattle.ps_automaton.proofs.laws.refusal_is_one.Goals as goal

pub returns : goal.returns
returns c = record { some = admitted_or_refused; apart = admitted_apart; one = one_refusal }
