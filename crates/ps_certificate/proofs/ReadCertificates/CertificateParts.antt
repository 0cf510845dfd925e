-- These abbreviations apply the grammar laws of the crate `ps_text` to the parts of a certificate's text.
-- - `Lawful`, `Chain`, `Left`: the definitions of the crate `ps_text` with these names, for certificates and their
--   errors
use Rattle.ps_text.specs.Answers.{Stream}
use Rattle.ps_text.specs.Bytes.{Seen}
use Rattle.ps_text.proofs.BytesAndDigits.Bytes.Lawful as lawful
use Rattle.ps_text.proofs.BytesAndDigits.Bytes.Lefts as lefts
use Rattle.ps_certificate.specs.declared.fault.CertCause.TheVariants.{Syntax}
use Rattle.ps_certificate.specs.Faults.{cause_number}
use Rattle.ps_certificate.specs.Texts.{Field}

abbrev pub Lawful : {V : Type 0} → Field V → (Seen → Type 0) → (Seen → Type 0) → Type 0 → Type 0
Lawful part First More Null = lawful.Lawful cause_number Syntax part First More Null

abbrev pub Chain : {A B : Type 0} → Field A → (A → Field B) → (Seen → Type 0) → (Seen → Type 0) → Type 0 → Type 0
Chain P Q First More Null = lawful.Chain cause_number Syntax P Q First More Null

abbrev pub Left : {V : Type 0} → Field V → Stream Seen → Field V → Stream Seen → Type 0
Left whole start left now = lefts.Left cause_number Syntax whole start left now
