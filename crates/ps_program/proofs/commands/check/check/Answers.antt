use Rattle.std.proofs.Common.{codes}
use Rattle.ps_certificate.specs.Certificates.{IsValid}
use Rattle.ps_program.proofs.ByCommand.CheckLemmas.{names_vertices, test_answered}
use Rattle.ps_program.proofs.commands.check.check.Goals as goal

pub tell-requires : goal.tell-requires
tell-requires c = names_vertices c.in_ok-game.game c.in_ok-game.certificate _ c.game-2.ensures.game
    c.check-outcome.result c.game-2.ensures.well_formed.is_game c.check-outcome.ensures.flaw c.in_ok-game.ensures.fits

pub returns : goal.returns
returns c = test_answered c.in_ok-game.game c.in_ok-game.certificate _ c.game-2.ensures.game c.check-outcome.result
    c.game-2.ensures.well_formed.is_game c.check-outcome.ensures.flaw IsValid (codes "valid") c.args.texts.now
    c.tell.result c.in_ok-game.ensures.read c.check-outcome.ensures.exact c.tell.ensures
