use Rattle.ps_models.proofs.JudgedCircuits.WinningLemmas.{wins_unrefuted}
use Rattle.ps_models.proofs.JudgedCircuits.Refuting.{apart}
use Rattle.ps_models.proofs.laws.judgement_is_one.Goals as goal

pub returns : goal.returns
returns c = record {
  wins = λ order role f circuit distinct is_circuit symbols in_time none.
      wins_unrefuted order role f circuit distinct is_circuit
      (c.circuit_has_one_values.ensures circuit is_circuit) symbols in_time none;
  apart = apart;
}
