use Rattle.ps_program.proofs.Exchanged.CheckedCertificates.{certificates_checked}
use Rattle.ps_program.proofs.laws.certificates_are_checked.Goals as goal

pub returns : goal.returns
returns c = certificates_checked c.one_answer.ensures c.certificate_text_has_one_answer.ensures
    c.written_texts_are_read.ensures.certificate
