use Rattle.ps_program.specs.Finders.{Finders}
use Rattle.ps_program.proofs.AtMostOne.AgreeingAnswers.{whole_one}
use Rattle.ps_program.proofs.AtMostOne.OneCertified.{certified_one}
use Rattle.ps_program.proofs.laws.one_answer.Goals as goal

pub returns : goal.returns
returns g c =
    let finders : Finders = g.F.KnownFinders.finders in
    record {
      answer = whole_one c.one_answer.ensures c.certificate_text_has_one_answer.ensures c.first_flaw_is_one.ensures
          c.one_answer-2.ensures c.stimulus_text_has_one_answer.ensures c.one_answer-3.ensures
          c.refusal_is_one.ensures.one c.refusal_is_one.ensures.apart c.verdict_is_one.ensures c.word_is_one.ensures
          c.circuit_has_one_values.ensures c.one_game_of_file.ensures c.winners_are_one.ensures c.one_answer-4.ensures
          c.one_certificate.ensures c.judgement_is_one.ensures.apart c.judgement_is_one-2.ensures.apart
          c.no_specification_has_both.ensures.specification c.one_verdict.ensures.apart
          c.one_verdict.ensures.player c.one_verdict.ensures.no_flaw
          c.one_verdict.ensures.no_cycle finders;
      certified = λ replaying asked cert. certified_one c.one_answer-3.ensures c.refusal_is_one.ensures.one
          c.refusal_is_one.ensures.apart c.one_game_of_file.ensures c.certificate_text_has_one_answer.ensures
          c.winners_circuit_is_one.ensures.one c.winners_circuit_is_one.ensures.apart finders replaying asked cert;
    }
