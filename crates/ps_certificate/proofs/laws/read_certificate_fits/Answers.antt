use Rattle.ps_certificate.proofs.ReadCertificates.TextFits.{certificate_fits}
use Rattle.ps_certificate.proofs.laws.read_certificate_fits.Goals as goal

pub returns : goal.returns
returns c named text certificate each reads =
    certificate_fits named.ids _ each reads.odd_listed reads.even_listed reads.answers.0
