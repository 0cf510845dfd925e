-- A certificate with the winners and moves of another, and with the least counts.
use Rattle.ps_game.specs.Games.{ParityGame}
use Rattle.ps_certificate.specs.Certificates.{CertificateData, Fits, IsValid}
use Rattle.ps_certificate.specs.Least.{SaysTheSame, HasLeastCounts}

pub record IsLeastCounterpart (game : ParityGame) (certificate other : CertificateData) : Type 0 where
  pub same : SaysTheSame game certificate other
  pub fits : Fits game other
  pub valid : IsValid game other
  pub least : HasLeastCounts game other
