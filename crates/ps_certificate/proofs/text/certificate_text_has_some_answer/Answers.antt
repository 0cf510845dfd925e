-- The law `certificate_text_has_some_answer` is proved by the lemma `some_reading`.
use Rattle.ps_certificate.proofs.ReadCertificates.OneReading.{some_reading}
use Rattle.ps_certificate.proofs.text.certificate_text_has_some_answer.Goals as goal

pub returns : goal.returns
returns c = some_reading
