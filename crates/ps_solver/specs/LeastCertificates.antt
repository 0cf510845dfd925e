-- The certificates that psyn's own solver finds.
-- - `IsLeastCertificate game c`: c fits the game, is valid, and has the least counts for its moves
-- - `Finds result P`: if a call succeeds, its result has the property P; if it fails, memory has run out
use Rattle.std.specs.Prelude.{◌≡◌, IfErr, IfOk, Result}
use Rattle.ps_certificate.specs.Certificates.{CertificateData, Fits, IsValid}
use Rattle.ps_certificate.specs.Least.{HasLeastCounts}
use Rattle.ps_game.specs.Games.{ParityGame}
use Rattle.ps_solver.specs.declared.fault.SolveFault.{SolveFault}
use Rattle.ps_solver.specs.declared.fault.SolveFault.TheVariants.{OutOfMemory}

pub record IsLeastCertificate (game : ParityGame) (certificate : CertificateData) : Type 0 where
  pub fits : Fits game certificate
  pub valid : IsValid game certificate
  pub least : HasLeastCounts game certificate

pub record Finds {X : Type 0} (result : Result X SolveFault) (P : X → Type 0) : Type 0 where
  pub certificate : IfOk result P
  pub memory : IfErr result (λ fault. fault ≡ OutOfMemory)
