use Rattle.ps_certificate.specs.Certificates.{CertificateData}
use Rattle.ps_certificate.specs.Faults.{cause_number, cause_name}
use Rattle.ps_certificate.specs.Texts.{ReadsCertificate}
use Rattle.ps_program.proofs.ByCommand.OutcomeLemmas.{gives_parsed}
use Rattle.ps_program.proofs.texts.read_certificate.Goals as goal

pub returns-in_err-read-clause-read : goal.returns-in_err-read-clause-read
returns-in_err-read-clause-read c = gives_parsed {X = CertificateData} {V = CertificateData} cause_number cause_name
    (ReadsCertificate c.args.game.now c.args.text.now) (λ certificate. certificate) c.in_err-read.field-0.0
    c.from_residual.result c.in_err-read.ensures.exact c.from_residual.ensures.1
