use Rattle.ps_certificate.proofs.ReadCertificates.OneReading.{one_reading}
use Rattle.ps_certificate.proofs.text.certificate_text_has_one_answer.Goals as goal

pub returns : goal.returns
returns c = one_reading
