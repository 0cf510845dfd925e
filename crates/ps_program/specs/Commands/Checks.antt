-- The commands that test a certificate of a game.
use Rattle.std.specs.Prelude.{◌≡◌, ℕ, List, Result, Ok, Err, codes}
use Rattle.ps_game.specs.Games.{ParityGame, NamedGameData, IsGame}
use Rattle.ps_certificate.specs.declared.flaw.Flaw.{Flaw}
use Rattle.ps_certificate.specs.Certificates.{CertificateData, IsClosed, IsValid, IsFirstFlaw}
use Rattle.ps_program.specs.Outcomes.{Then}
use Rattle.ps_program.specs.Replies.{Reply, line_reply}
use Rattle.ps_program.specs.Texts.{ReadsCertified, flaw_text}

-- what is printed after a test of a certificate: the given word if no flaw was found, and otherwise the line that
-- reports the flaw
abbrev pub test_told : List ℕ → NamedGameData → Result (Unit {0}) Flaw → Result Reply (List ℕ)
test_told word named (Ok done) = Ok (line_reply word)
test_told word named (Err flaw) = Err (flaw_text named flaw)

-- what is printed for a certificate: the given word if it passes the test `IsGood`, and otherwise the line that reports
-- its first flaw
abbrev pub Tests : (ParityGame → CertificateData → Type 0) → List ℕ → NamedGameData → CertificateData →
    Result Reply (List ℕ) → Type 0
Tests IsGood word named certificate (Ok reply) = IsGood named.game certificate × (reply ≡ line_reply word)
Tests IsGood word named certificate (Err line) = IsGame named.game × ¬ (IsGood named.game certificate)
    × ((flaw : Flaw) × IsFirstFlaw named.game certificate flaw × (line ≡ flaw_text named flaw))

-- what the program answers to the command `closed`
abbrev pub AnswersClosed : List ℕ → Result Reply (List ℕ) → Type 0
AnswersClosed texts = Then (ReadsCertified texts) (λ both. Tests IsClosed (codes "closed") both.0 both.1)

-- what the program answers to the command `check`
abbrev pub AnswersCheck : List ℕ → Result Reply (List ℕ) → Type 0
AnswersCheck texts = Then (ReadsCertified texts) (λ both. Tests IsValid (codes "valid") both.0 both.1)
