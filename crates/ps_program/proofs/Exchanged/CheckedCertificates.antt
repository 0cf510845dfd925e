-- `check` answers `valid` for the text of a valid certificate.
use Rattle.std.proofs.Common.{rules, ◌≡◌, ℕ, Bool, List, Result, Ok, Err, refl, sym, ap, subst, inl, inr}
use Rattle.std.specs.Prelude.{codes}
use Rattle.ps_certificate.specs.Certificates.{CertificateData, Fits, IsValid}
use Rattle.ps_certificate.specs.Written.{HasWords, text_in}
use Rattle.ps_game.specs.Games.{IsNamedGame, NamedGameData}
use Rattle.ps_solver.specs.Solving.{IsCertified}
use Rattle.ps_synthesis.specs.Printing.{PrintsCertificate}
use Rattle.ps_program.specs.Commands.Checks.{AnswersCheck, Tests}
use Rattle.ps_program.specs.Laws.Exchanged.{ChecksCertificates}
use Rattle.ps_program.specs.Replies.{Reply, line_reply}
use Rattle.ps_program.specs.Texts.{CutsInTwo, ReadsCertified, ReadsGameText}
use Rattle.ps_program.proofs.AtMostOne.Agreeing.{OneCertificate, ok_same}
use Rattle.ps_program.proofs.AtMostOne.OneCut.{cut_one}
use Rattle.ps_program.proofs.AtMostOne.OneStage.{OneGame}
use Rattle.ps_program.proofs.AtMostOne.OneStep.{IsOne, ended_one, ok_is_not_err, ok_of, reading_one, then_one}

-- the law of the crate `ps_synthesis` on which this file relies
abbrev pub RereadsCertificate : Type 0
RereadsCertificate = (compact : Bool) (game : NamedGameData) (certificate : CertificateData) → IsNamedGame game →
    Fits game.game certificate → HasWords game.ids certificate →
    PrintsCertificate compact (text_in compact game certificate) game certificate

abbrev Both : Type 0
Both = NamedGameData × CertificateData

module _ (games : OneGame) (certificates : OneCertificate) (rereads : RereadsCertificate) where
  certified_one : (texts : List ℕ) → IsOne (ReadsCertified texts)
  certified_one texts = then_one _ _ (cut_one texts) (λ parts. search (rules, then_one, reading_one, ended_one))

  module _ (compact : Bool) (named : NamedGameData) (certificate : CertificateData) (text texts : List ℕ)
      (well_formed : IsNamedGame named) (certified : IsCertified named certificate)
      (words : HasWords named.ids certificate) (reads : ReadsGameText text (Ok named))
      (cuts : CutsInTwo texts (Ok (text, text_in compact named certificate))) where
    read : ReadsCertified texts (Ok (named, certificate))
    read = inr (
      (text, text_in compact named certificate),
      cuts,
      inr (
        named,
        reads,
        inr (certificate, (rereads compact named certificate well_formed certified.fits words).read_again, refl),
      ),
    )

    answered : AnswersCheck texts (Ok (line_reply (codes "valid")))
    answered = inr ((named, certificate), read, (certified.valid, refl))

    abbrev told : Both → Result Reply (List ℕ) → Type 0
    told both outcome = Tests IsValid (codes "valid") both.0 both.1 outcome

    valid_told : (outcome : Result Reply (List ℕ)) → told (named, certificate) outcome →
        outcome ≡ Ok (line_reply (codes "valid"))
    valid_told (Ok reply) (good, is) = ap (ok_of {V = Reply} {E = List ℕ}) is
    valid_told (Err line) (is_game, bad, found) = absurd (bad certified.valid)

    only : (outcome : Result Reply (List ℕ)) → AnswersCheck texts outcome → outcome ≡ Ok (line_reply (codes "valid"))
    only outcome (inl (line, fault, e)) = absurd (ok_is_not_err (named, certificate) line
        (certified_one texts (Ok (named, certificate)) (Err line) read fault))
    only outcome (inr (both, other, tests)) = valid_told outcome (subst (λ (b : Both). told b outcome)
        (ok_same both (named, certificate) (certified_one texts (Ok both) (Ok (named, certificate)) other read)) tests)

  pub certificates_checked : ChecksCertificates
  certificates_checked compact named certificate text texts outcome well_formed certified words reads cuts = (
    only compact named certificate text texts well_formed certified words reads cuts outcome,
    (λ same. subst (AnswersCheck texts) (sym same)
        (answered compact named certificate text texts well_formed certified words reads cuts)),
  )
