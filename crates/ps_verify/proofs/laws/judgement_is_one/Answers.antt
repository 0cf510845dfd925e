use Rattle.ps_verify.proofs.OneJudgement.{apart, wins}
use Rattle.ps_verify.proofs.laws.judgement_is_one.Goals as goal

pub returns : goal.returns
returns c = record {
  wins = λ order role file circuit sound admitted is_circuit symbols in_time none.
      (let auto = c.automaton_is_there.ensures file sound admitted in
      wins auto.2 auto.3 is_circuit (c.circuit_has_one_values.ensures circuit is_circuit) symbols in_time none
      sound.names);
  apart = apart;
}
