use Rattle.std.proofs.Common.{arith}
use Rattle.std.proofs.lemmas.Result.{IfOk-weaker}
use Rattle.ps_machine.proofs.Uniqueness.OneGame.{one_game_of}
use Rattle.ps_machine.proofs.extracting.extract.Goals as goal

pub machine_of_certificate-requires : goal.machine_of_certificate-requires
machine_of_certificate-requires c =
    let same = (one_game_of _ _ _ _ _ _ c.requires.game.1 c.in_ok-keyed.ensures.game).1 in
    record {
      game = c.in_ok-keyed.ensures.game;
      classes = c.in_ok-keyed.ensures.classes;
      fits = rw same at c.requires.fits;
      valid = rw same at c.requires.valid;
    }

pub returns-clause-machine : goal.returns-clause-machine
returns-clause-machine c =
    let made = c.in_ok-keyed.keyed in
    let certificate = c.args.certificate.now in
    IfOk-weaker c.machine_of_certificate.result _ _ (λ m of keys is. grind (
      arith,
      one_game_of _ _ _ _ _ _ c.in_ok-keyed.ensures.game is,
    )) c.machine_of_certificate.ensures.machine
