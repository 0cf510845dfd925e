use Rattle.ps_certificate.proofs.ReadCertificates.TextFits.{certificate_fits}
use Rattle.ps_certificate.proofs.text.read.Goals as goal

pub returns-clause-fits : goal.returns-clause-fits
returns-clause-fits c = certificate_fits c.args.game.now.ids _ c.game.ensures.well_formed.id_each
    (rw c.game.ensures.game at c.in_ok-priorities_of.ensures)
    (rw c.game-2.ensures.game at c.in_ok-priorities_of-2.ensures) c.in_ok-entries.ensures.0
