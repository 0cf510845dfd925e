use Rattle.std.proofs.Common.{refl}
use Rattle.ps_program.proofs.laws.own_solvers_may_answer.Goals as goal

pub returns : goal.returns
returns c = record {
  certify = λ game is.
      let (certificate, answers) = c.each_game_has_a_certificate.ensures game is in (certificate, answers.0, answers);
  replay = λ text. record { unsure = refl; replays = λ fed game answer h. h };
}
