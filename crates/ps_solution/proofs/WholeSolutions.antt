-- The result of the function that parses a whole solution is the grammar's answer to this text.
use Rattle.std.proofs.Common.{rules, ◌≡◌, ℕ, List, length, [], ◌∷◌, Result, Ok, Err, IsErrAnd, refl, sym, ap, subst}
use Rattle.std.proofs.lemmas.Result.{err_from_is_err_and}
use Rattle.ps_text.specs.Answers.{Piece, Stream, signs, first_of, next_of, offset_of}
use Rattle.ps_text.specs.Readers.{Reads, Stops}
use Rattle.ps_text.specs.Faults.{found_of}
use Rattle.ps_text.specs.declared.faults.Fault.TheVariants.{Text, OutOfMemory}
use Rattle.ps_text.proofs.ParsedAnswers.Whole.{answers_ok, answers_fault, answers_trailing}
use Rattle.ps_certificate.specs.Faults.{CertFault}
use Rattle.ps_certificate.specs.declared.fault.CertCause.TheVariants.{Syntax, OtherGame}
use Rattle.ps_pgsolver.specs.Lexer.{stream_of}
use Rattle.ps_pgsolver.specs.Signs.{Sign}
use Rattle.ps_pgsolver.proofs.TokensOfGames.GameTokens.{tokens_found}
use Rattle.ps_solution.specs.Reading.{IsSolutionAnswer, refused, incomplete, meaning}
use Rattle.ps_solution.specs.Solved.{SolvedData, SolutionData, IsFilled, solution_of}
use Rattle.ps_solution.specs.Texts.{solution_causes, solution}
use Rattle.ps_solution.specs.Inner.Answered.{TextAnswers, end_answer}
use Rattle.ps_solution.proofs.SolutionLaws.{laws_solution}

module _ (ids : List ℕ) where
  stops_answers : (stream : Stream Sign) (e : CertFault) → Stops solution_causes (solution ids) stream (found_of e) →
      TextAnswers ids stream (Err e)
  stops_answers stream OutOfMemory m = tt
  stops_answers stream (Text cause offset) m = answers_fault (laws_solution ids) stream _ m

  pub answer_exit : (stream : Stream Sign) (e : CertFault) (r : Result SolvedData CertFault) →
      Stops solution_causes (solution ids) stream (found_of e) → IsErrAnd r (λ y. y ≡ e) → TextAnswers ids stream r
  answer_exit stream e r m i = search (rules, err_from_is_err_and, stops_answers)

  abbrev done_as : Unit {0} → Result (Unit {0}) CertFault
  done_as u = Ok u

  abbrev fails_as : CertFault → Result (Unit {0}) CertFault
  fails_as e = Err e

  ok_is_err : (u : Unit {0}) (e : CertFault) → done_as u ≡ fails_as e → ⊥
  ok_is_err u e h = let x : done_as u ≡ fails_as e = h in cc

  same_err : {e f : CertFault} → fails_as e ≡ fails_as f → e ≡ f
  same_err {e} {f} h = let x : fails_as e ≡ fails_as f = h in cc

  pub ended : (old new : Stream Sign) (s : SolvedData) (u : Unit {0}) → Reads (solution ids) old s new →
      done_as u ≡ end_answer (next_of new) (offset_of new.pieces new.end) → TextAnswers ids old (Ok s)
  ended old new s u m e = go new.pieces refl e
    where
      go : (ps : List (Piece Sign)) → new.pieces ≡ ps → done_as u ≡ end_answer (first_of (signs ps))
          (offset_of ps new.end) → TextAnswers ids old (Ok s)
      go [] x e = answers_ok (laws_solution ids) old s (search rules)
      go (p ∷ ps) x e = absurd (ok_is_err u (Text Syntax p.start) e)

  pub not_ended : (old new : Stream Sign) (s : SolvedData) (e : CertFault) (r : Result SolvedData CertFault) →
      Reads (solution ids) old s new → fails_as e ≡ end_answer (next_of new) (offset_of new.pieces new.end) →
      IsErrAnd r (λ y. y ≡ e) → TextAnswers ids old r
  not_ended old new s e r m h i = search (rules, err_from_is_err_and, go)
    where
      go : (ps : List (Piece Sign)) → new.pieces ≡ ps → fails_as e ≡ end_answer (first_of (signs ps))
          (offset_of ps new.end) → TextAnswers ids old (Err e)
      go [] x h = absurd (ok_is_err tt e (sym h))
      go (p ∷ ps) x h = subst (λ f. TextAnswers ids old (Err f))
          (sym (same_err h)) (answers_trailing (laws_solution ids) old new s p ps m.0 m.1 x)

  -- ## The answer to a text

  pub refused_answer : (text : List ℕ) (e : CertFault) → TextAnswers ids (stream_of text) (Err e) →
      IsSolutionAnswer ids text (Err e)
  refused_answer text OutOfMemory h = tt
  refused_answer text (Text cause offset) h = refused (stream_of text) _ (tokens_found text) h refl

  pub refused_exit : (text : List ℕ) (e : CertFault) (r : Result SolutionData CertFault) →
      TextAnswers ids (stream_of text) (Err e) → IsErrAnd r (λ y. y ≡ e) → IsSolutionAnswer ids text r
  refused_exit text e r h i = search (rules, err_from_is_err_and, refused_answer)

  pub incomplete_answer : (text : List ℕ) (s : SolvedData) → TextAnswers ids (stream_of text) (Ok s) → ¬ IsFilled s →
      IsSolutionAnswer ids text (Err (Text OtherGame (length text)))
  incomplete_answer text s p n = incomplete (stream_of text) s (tokens_found text) p n refl

  pub whole_answer : (text : List ℕ) (s : SolvedData) (r : SolutionData) → TextAnswers ids (stream_of text) (Ok s) →
      IsFilled s → r ≡ solution_of s → IsSolutionAnswer ids text (Ok r)
  whole_answer text s r p w e = meaning (stream_of text) s (tokens_found text) p w (ap Ok e)
