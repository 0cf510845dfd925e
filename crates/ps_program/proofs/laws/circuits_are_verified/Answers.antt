use Rattle.ps_program.proofs.AtMostOne.OneStage.{automaton_one, circuit_one}
use Rattle.ps_program.proofs.Exchanged.VerifiedCircuits.{circuits_verified}
use Rattle.ps_program.proofs.laws.circuits_are_verified.Goals as goal

pub returns : goal.returns
returns g c = circuits_verified
    (automaton_one c.one_answer-2.ensures c.refusal_is_one.ensures.one c.refusal_is_one.ensures.apart)
    (circuit_one c.one_answer.ensures) c.judgement_is_one.ensures.apart c.witness_wins.ensures
    g.F.KnownFinders.finders.solvers.built_in
