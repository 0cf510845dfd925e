-- A condition on certificates: a machine is made from a certificate that satisfies `IsValidFor`. (For private
-- functions.)
use Rattle.std.specs.Prelude.{◌<◌}
use Rattle.ps_certificate.specs.Certificates.{CertificateData, Fits, IsValid}
use Rattle.ps_game.specs.Games.{ParityGame, vertex_count}

-- the game has a vertex, and the certificate fits it and is valid
pub record IsValidFor (game : ParityGame) (certificate : CertificateData) : Type 0 where
  pub some : 0 < vertex_count game
  pub fits : Fits game certificate
  pub valid : IsValid game certificate
