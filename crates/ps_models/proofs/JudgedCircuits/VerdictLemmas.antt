-- A verdict on the words of a circuit whose names and timing are right is a judgement.
use Rattle.ps_circuit.specs.Circuits.{CircuitData, IsCircuit}
use Rattle.ps_circuit.specs.Values.{HasOneValues}
use Rattle.ps_machine.specs.declared.key.Order.{Order}
use Rattle.ps_simulate.specs.Symbols.{AreDistinct, HasSymbols}
use Rattle.ps_simulate.specs.declared.role.Role.{Role}
use Rattle.ps_traces.specs.Shapes.{IsInTimeWhereReached}
use Rattle.ps_verify.specs.declared.judgement.Judgement.{Judgement}
use Rattle.ps_verify.specs.declared.judgement.Judgement.TheVariants.{Wins, Loses}
use Rattle.ps_models.proofs.JudgedCircuits.WinningLemmas.{winning_as}
use Rattle.ps_models.specs.Judgements.{IsJudgementFor, NamedFormula}
use Rattle.ps_models.specs.Verdicts.{IsVerdictOn}

pub judgement_by_verdict : (order : Order) (role : Role) (f : NamedFormula) (c : CircuitData) → AreDistinct f.names →
    IsCircuit c → HasOneValues c → HasSymbols role f.names f.controllable c → IsInTimeWhereReached order role c →
    (judgement : Judgement) → IsVerdictOn role f c judgement → IsJudgementFor order role f c judgement
judgement_by_verdict order role f c distinct is_circuit one symbols in_time Wins wins =
    winning_as order role f c distinct is_circuit one symbols in_time wins.satisfied wins.violated
judgement_by_verdict order role f c distinct is_circuit one symbols in_time (Loses stimulus) loses = record {
  symbols = symbols;
  in_time = in_time;
  wide = loses.wide;
  some = loses.some;
  word = loses.word;
  is_word = loses.is_word;
  is_wrong = loses.is_wrong;
}
