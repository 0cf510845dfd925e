-- A judgement by a formula on the part of a circuit on which its outputs depend is a judgement on the circuit.
use Rattle.std.proofs.Common.{Bool, List}
use Rattle.ps_circuit.specs.Circuits.{CircuitData, IsCircuit}
use Rattle.ps_circuit.specs.Values.{HasOneValues}
use Rattle.ps_cone.specs.Parts.{IsPartOf}
use Rattle.ps_cone.proofs.PartWords.{symbols_of_whole, word_of_part}
use Rattle.ps_machine.specs.declared.key.Order.{Order}
use Rattle.ps_simulate.specs.Stimuli.{StimulusData}
use Rattle.ps_simulate.specs.Symbols.{AreDistinct}
use Rattle.ps_simulate.specs.declared.role.Role.{Role}
use Rattle.ps_verify.specs.declared.judgement.Judgement.{Judgement}
use Rattle.ps_verify.specs.declared.judgement.Judgement.TheVariants.{Wins, Loses}
use Rattle.ps_verify.proofs.PartJudgements.{in_time_in_whole, trace_there, wide_in_whole, word_on_part}
use Rattle.ps_models.specs.Judgements.{IsJudgementFor, IsLosingFor, IsWinningFor, NamedFormula}
use Rattle.ps_models.proofs.JudgedCircuits.WinningLemmas.{winning_as}

module _ (order : Order) (role : Role) (f : NamedFormula) {c : CircuitData} {kept : List Bool} {part : CircuitData}
    (p : IsPartOf c kept part) (distinct : AreDistinct f.names) (is_circuit : IsCircuit c) (one : HasOneValues c) where
  losing_alike : (s : StimulusData) → IsLosingFor order role f part s → IsLosingFor order role f c s
  losing_alike s loses =
      let symbols = symbols_of_whole p loses.symbols in
      let wide = wide_in_whole p loses.wide in
      let there = trace_there s distinct one symbols wide loses.some in
      record {
        symbols = symbols;
        in_time = in_time_in_whole p order role loses.in_time;
        wide = wide;
        some = loses.some;
        word = there.word;
        is_word = there.is_word;
        is_wrong = λ stem lap on. loses.is_wrong stem lap (word_on_part p on);
      }

  winning_alike : IsWinningFor order role f part → IsWinningFor order role f c
  winning_alike wins = winning_as order role f c distinct is_circuit one (symbols_of_whole p wins.symbols)
      (in_time_in_whole p order role wins.in_time)
      (λ same stem lap word. wins.satisfied same stem lap (word_of_part p word))
      (λ same stem lap word. wins.violated same stem lap (word_of_part p word))

  pub sentence_judged_alike : (judgement : Judgement) → IsJudgementFor order role f part judgement →
      IsJudgementFor order role f c judgement
  sentence_judged_alike Wins is = winning_alike is
  sentence_judged_alike (Loses s) is = losing_alike s is
