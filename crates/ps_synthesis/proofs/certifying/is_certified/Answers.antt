use Rattle.std.proofs.Common.{subst}
use Rattle.ps_certificate.specs.Regions.{BothHold, NoneWinsOutside}
use Rattle.ps_game.specs.Games.{ParityGame}
use Rattle.ps_synthesis.proofs.CertifyingLemmas.{where_ok}
use Rattle.ps_synthesis.proofs.certifying.is_certified.Goals as goal

pub returns-then-fits-clause-both_hold : goal.returns-then-fits-clause-both_hold
returns-then-fits-clause-both_hold c = λ ok. subst (λ (game : ParityGame). BothHold game c.args.certificate.now)
    c.game-then-fits.ensures.game (where_ok _ c.check.result c.is_ok.result c.check.ensures.regions c.is_ok.ensures.value
    ok)

pub returns-then-fits-clause-none_wins_outside : goal.returns-then-fits-clause-none_wins_outside
returns-then-fits-clause-none_wins_outside c =
    λ ok. subst (λ (game : ParityGame). NoneWinsOutside game c.args.certificate.now) c.game-then-fits.ensures.game
    (where_ok _ c.check.result c.is_ok.result c.check.ensures.best c.is_ok.ensures.value ok)
