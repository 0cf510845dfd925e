-- Lemmas about what the program prints after it has tested a certificate, for the commands `closed` and `check`.
use Rattle.std.proofs.Common.{arith, ◌≡◌, ◌↔◌, ℕ, List, Result, Ok, Err, false, true, ap, subst}
use Rattle.std.specs.Prelude.{IfErr, IsOk}
use Rattle.ps_game.specs.Games.{NamedGameData, ParityGame, IsGame, vertex_count}
use Rattle.ps_certificate.specs.Certificates.{CertificateData, Fits, IsFirstFlaw}
use Rattle.ps_certificate.specs.declared.flaw.Flaw.{Flaw}
use Rattle.ps_program.specs.declared.answer.Answer.{Answer}
use Rattle.ps_program.specs.declared.answer.Refusal.{Refusal}
use Rattle.ps_program.specs.Commands.Checks.{Tests, test_told}
use Rattle.ps_program.specs.Outcomes.{Gives, Then}
use Rattle.ps_program.specs.Replies.{Reply, reply_of}
use Rattle.ps_program.specs.Texts.{NamesVertices, ReadsCertified}
use Rattle.ps_program.proofs.ByCommand.TextLemmas.{flaw_names_vertices}
use Rattle.ps_program.proofs.ByCommand.OutcomeLemmas.{gives_after}

reply_or : Reply → Result Reply (List ℕ) → Reply
reply_or other (Ok reply) = reply
reply_or other (Err line) = other

line_or : List ℕ → Result Reply (List ℕ) → List ℕ
line_or other (Ok reply) = other
line_or other (Err line) = line

abbrev with_reply : Reply → Result Reply (List ℕ)
with_reply reply = Ok reply

abbrev with_line : List ℕ → Result Reply (List ℕ)
with_line line = Err line

same_reply : (reply other : Reply) → with_reply reply ≡ with_reply other → reply ≡ other
unfolding reply_or
same_reply reply other same = ap (reply_or reply) same

same_line : (line other : List ℕ) → with_line line ≡ with_line other → line ≡ other
unfolding line_or
same_line line other same = ap (line_or line) same

no_ok : false ≡ true → ⊥
no_ok same = cc

no_reply : {reply : Reply} {line : List ℕ} → Ok reply ≡ Err line → ⊥
no_reply same = cc

no_fault : {reply : Reply} {line : List ℕ} → Err line ≡ Ok reply → ⊥
no_fault same = cc

-- the flaw that a test of a certificate finds names only vertices of the game
outcome_names_vertices : (game : ParityGame) (given : CertificateData) (outcome : Result (Unit {0}) Flaw) →
    IsGame game → Fits game given → IfErr outcome (IsFirstFlaw game given) →
    IfErr outcome (NamesVertices (vertex_count game))
outcome_names_vertices game given outcome is_game fits first = grind (arith, flaw_names_vertices)

-- the command's result is the line for the outcome of the test: the word for success, or the line that reports the
-- flaw
tests_told : (IsGood : ParityGame → CertificateData → Type 0) (word : List ℕ) (named : NamedGameData)
    (given : CertificateData) (outcome : Result (Unit {0}) Flaw) (result : Result Answer Refusal) → IsGame named.game
    → (IsOk outcome ↔ IsGood named.game given) → IfErr outcome (IsFirstFlaw named.game given) →
    Gives reply_of (λ told. told ≡ test_told word named outcome) result →
    Gives reply_of (Tests IsGood word named given) result
tests_told IsGood word named given outcome result is_game exact first told =
    grind (arith, same_reply, no_fault, no_reply, no_ok, same_line)

-- the test is made on the arena, which is the game's
module _ (named : NamedGameData) (given : CertificateData) (arena : ParityGame) (same : arena ≡ named.game)
    (outcome : Result (Unit {0}) Flaw) (is_game : IsGame named.game) (flaw : IfErr outcome (IsFirstFlaw arena given))
  where
    first_flaw : IfErr outcome (IsFirstFlaw named.game given)
    first_flaw = subst (λ (game : ParityGame). IfErr outcome (IsFirstFlaw game given)) same flaw

    pub names_vertices : Fits named.game given → IfErr outcome (NamesVertices (vertex_count named.game))
    names_vertices fits = outcome_names_vertices named.game given outcome is_game fits first_flaw

    pub test_answered : (IsGood : ParityGame → CertificateData → Type 0) (word texts : List ℕ)
        (result : Result Answer Refusal) → ReadsCertified texts (Ok (named, given)) →
        (IsOk outcome ↔ IsGood arena given)
        → Gives reply_of (λ told. told ≡ test_told word named outcome) result →
        Gives reply_of (Then (ReadsCertified texts) (λ both. Tests IsGood word both.0 both.1)) result
    test_answered IsGood word texts result read exact told =
        gives_after (ReadsCertified texts) reply_of (λ both. Tests IsGood word both.0 both.1) (named, given) result read
        (tests_told IsGood word named given outcome result is_game
        (subst (λ (game : ParityGame). IsOk outcome ↔ IsGood game given) same exact) first_flaw told)
