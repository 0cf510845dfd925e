-- The numbers and names of the errors of a certificate text, and of the flaws of a certificate.
use Rattle.std.specs.Prelude.{ℕ, List, codes}
use Rattle.ps_text.specs.declared.faults.Fault.{Fault}
use Rattle.ps_certificate.specs.declared.fault.CertCause.{CertCause}
use Rattle.ps_certificate.specs.declared.fault.CertCause.TheVariants.{Syntax, OtherGame}
use Rattle.ps_certificate.specs.declared.flaw.Flaw.{Flaw}
use Rattle.ps_certificate.specs.declared.flaw.Flaw.TheVariants.{Move, Escape, Rank}

-- why the parser returns no certificate: the text has an error, which is given with its offset, or memory ran out
abbrev pub CertFault : Type 0
CertFault = Fault CertCause

abbrev pub cause_number : CertCause → ℕ
cause_number Syntax = 53
cause_number OtherGame = 54

abbrev pub cause_name : CertCause → List ℕ
cause_name Syntax = codes "Syntax"
cause_name OtherGame = codes "OtherGame"

abbrev pub flaw_number : Flaw → ℕ
flaw_number (Move vertex choice) = 50
flaw_number (Escape vertex successor) = 51
flaw_number (Rank vertex successor priority) = 52

abbrev pub flaw_name : Flaw → List ℕ
flaw_name (Move vertex choice) = codes "Move"
flaw_name (Escape vertex successor) = codes "Escape"
flaw_name (Rank vertex successor priority) = codes "Rank"
