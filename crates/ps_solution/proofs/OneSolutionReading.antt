-- The text of a solution has at most one answer: a solution, or the first error.
use Rattle.std.proofs.Common.{◌≡◌, ℕ, eqb, List, length, Result, Ok, Err, sym, ap, subst, ◌∙◌, rules, if◌then◌else◌}
use Rattle.ps_text.specs.Answers.{Stream, Found, AreNumbered}
use Rattle.ps_text.specs.Parts.{PartAnswers, IsWrong}
use Rattle.ps_text.proofs.ParsedAnswers.OneAnswer.{has_one_answer}
use Rattle.ps_certificate.specs.Faults.{cause_number}
use Rattle.ps_certificate.specs.declared.fault.CertCause.{CertCause}
use Rattle.ps_certificate.specs.declared.fault.CertCause.TheVariants.{Syntax, OtherGame}
use Rattle.ps_pgsolver.specs.Lexer.{stream_of}
use Rattle.ps_pgsolver.specs.Signs.{Sign}
use Rattle.ps_pgsolver.proofs.TokensOfGames.GameTokens.{only_tokens}
use Rattle.ps_solution.specs.Reading.{ReadsSolution, refused, incomplete, meaning}
use Rattle.ps_solution.specs.Solved.{SolvedData, SolutionData, IsFilled, solution_of}
use Rattle.ps_solution.specs.Texts.{solution_causes, solution}
use Rattle.ps_solution.proofs.SolutionLaws.{laws_solution}

abbrev of_number : ℕ → CertCause
of_number n = if eqb n 53 then Syntax else OtherGame

back : (f : CertCause) → of_number (cause_number f) ≡ f
back f = search rules

numbered : AreNumbered cause_number
numbered f g e = sym (back f) ∙ ap of_number e ∙ back g

abbrev Reading : Type 0
Reading = Result SolvedData (Found CertCause)

abbrev Answered : Type 0
Answered = Result SolutionData (Found CertCause)

module _ (ids : List ℕ) where
  same_reading : (stream : Stream Sign) (a b : Reading) → PartAnswers solution_causes (solution ids) stream a →
      PartAnswers solution_causes (solution ids) stream b → a ≡ b
  same_reading stream a b h k = has_one_answer (solution ids).IsText (IsWrong solution_causes (solution ids))
      cause_number (laws_solution ids).one_value numbered stream a b h k

  abbrev read_as : SolvedData → Reading
  read_as s = Ok s

  abbrev stops_as : Found CertCause → Reading
  stops_as f = Err f

  abbrev refuses : Found CertCause → Answered
  refuses f = Err f

  abbrev at_end : List ℕ → Answered
  at_end text = Err (record { cause = OtherGame; offset = length text })

  abbrev solves : SolvedData → Answered
  solves s = Ok (solution_of s)

  -- the cases of the answer to a solution's text, in terms of the tokens that the lexer produces
  data Over (text : List ℕ) (answer : Answered) : Type 0 where
    first : (f : Found CertCause) → PartAnswers solution_causes (solution ids) (stream_of text) (stops_as f) →
        answer ≡ refuses f → Over text answer
    missing : (s : SolvedData) → PartAnswers solution_causes (solution ids) (stream_of text) (read_as s) →
        ¬ IsFilled s → answer ≡ at_end text → Over text answer
    whole : (s : SolvedData) → PartAnswers solution_causes (solution ids) (stream_of text) (read_as s) → IsFilled s →
        answer ≡ solves s → Over text answer

  over : (text : List ℕ) (a : Answered) → ReadsSolution ids text a → Over text a
  over text a (refused stream f t p e) = first f
      (subst (λ z. PartAnswers solution_causes (solution ids) z (stops_as f)) (only_tokens text stream t) p) e
  over text a (incomplete stream s t p n e) = missing s
      (subst (λ z. PartAnswers solution_causes (solution ids) z (read_as s)) (only_tokens text stream t) p) n e
  over text a (meaning stream s t p w e) = whole s
      (subst (λ z. PartAnswers solution_causes (solution ids) z (read_as s)) (only_tokens text stream t) p) w e

  not_both : (s : SolvedData) (f : Found CertCause) → read_as s ≡ stops_as f → ⊥
  not_both s f e = let x : read_as s ≡ stops_as f = e in cc

  same_found : {f g : Found CertCause} → stops_as f ≡ stops_as g → f ≡ g
  same_found {f} {g} e = let x : stops_as f ≡ stops_as g = e in cc

  same_solved : {s t : SolvedData} → read_as s ≡ read_as t → s ≡ t
  same_solved {s} {t} e = let x : read_as s ≡ read_as t = e in cc

  same_over : (text : List ℕ) {a b : Answered} → Over text a → Over text b → a ≡ b
  same_over text (first f p e) (first g q k) =
      e ∙ ap refuses (same_found (same_reading (stream_of text) (stops_as f) (stops_as g) p q)) ∙ sym k
  same_over text (first f p e) (missing s q n k) =
      absurd (not_both s f (same_reading (stream_of text) (read_as s) (stops_as f) q p))
  same_over text (first f p e) (whole s q w k) =
      absurd (not_both s f (same_reading (stream_of text) (read_as s) (stops_as f) q p))
  same_over text (missing s p n e) (first f q k) =
      absurd (not_both s f (same_reading (stream_of text) (read_as s) (stops_as f) p q))
  same_over text (missing s p n e) (missing t q m k) = e ∙ sym k
  same_over text (missing s p n e) (whole t q w k) =
      absurd (n (subst IsFilled (same_solved (same_reading (stream_of text) (read_as t) (read_as s) q p)) w))
  same_over text (whole s p w e) (first f q k) =
      absurd (not_both s f (same_reading (stream_of text) (read_as s) (stops_as f) p q))
  same_over text (whole s p w e) (missing t q n k) =
      absurd (n (subst IsFilled (same_solved (same_reading (stream_of text) (read_as s) (read_as t) p q)) w))
  same_over text (whole s p w e) (whole t q v k) =
      e ∙ ap solves (same_solved (same_reading (stream_of text) (read_as s) (read_as t) p q)) ∙ sym k

  pub one_reading : (text : List ℕ) (a b : Answered) → ReadsSolution ids text a → ReadsSolution ids text b → a ≡ b
  one_reading text a b h k = same_over text (over text a h) (over text b k)
