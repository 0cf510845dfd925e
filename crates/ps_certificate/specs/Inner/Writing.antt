-- What the private function that writes a certificate's text establishes.
use Rattle.std.specs.Prelude.{◌≡◌, ℕ, Bool, List, Ok}
use Rattle.ps_game.specs.Games.{NamedGameData}
use Rattle.ps_certificate.specs.Certificates.{CertificateData}
use Rattle.ps_certificate.specs.Texts.{ReadsCertificate}
use Rattle.ps_certificate.specs.Written.{text_in}

-- the text is the plain or the compact text of the certificate, and reading it gives the certificate again
pub record IsTextOf (compact : Bool) (game : NamedGameData) (certificate : CertificateData) (text : List ℕ) : Type 0
  where
    pub bytes : text ≡ text_in compact game certificate
    pub read_again : ReadsCertificate game text (Ok certificate)
