-- The meaning or the first error of an HOA text follows from the results of the parsing functions. There is a lemma for
-- each way in which the parser of whole texts can return.
-- - `refused_answers`: if the start of the text has an error, this error is the answer to the text
-- - `header_fails`, `body_fails`: if the header, or the body after it, has a first error, this error is the answer
-- - `ends_answers`: if header and body were parsed, and the text ends after them, their meaning is the answer
-- - `trails_answers`: if header and body were parsed, and a token follows them, an error at this token is the answer
--
-- The hypothesis `reads` states that the meaning of the tokens after the version, or the first error in them, is the
-- answer to the text.
use Rattle.std.proofs.Common.{◌≡◌, ℕ, List, [], ◌∷◌, Some, Result, Ok, Err, IsErrAnd, refl, sym, ap, subst, ◌∙◌, rules}
use Rattle.std.proofs.lemmas.Result.{err_from_is_err_and}
use Rattle.ps_text.specs.Answers.{Piece, Stream, Found, signs}
use Rattle.ps_text.specs.Parts.{PartAnswers, IsRead, refusal_of}
use Rattle.ps_text.specs.Readers.{Stops, Reads as PartReads}
use Rattle.ps_text.proofs.ParsedAnswers.Exits.{reads_then, reads_mapped, stops_first, stops_behind, stops_mapped}
use Rattle.ps_text.proofs.ParsedAnswers.Whole.{answers_ok, answers_fault, answers_trailing}
use Rattle.ps_hoa.specs.Causes.{hoa_causes, found_of, HoaFault}
use Rattle.ps_hoa.specs.Files.{FileData}
use Rattle.ps_hoa.specs.Grammar.Header.{HeaderData, header}
use Rattle.ps_hoa.specs.Grammar.Body.{BodyData, body}
use Rattle.ps_hoa.specs.Scan.{next_of}
use Rattle.ps_hoa.specs.Texts.{file_of, file, ReadsFile, IsRefusedAs, IsFaultOf, IsFileAnswer}
use Rattle.ps_hoa.specs.Tokens.{Sign}
use Rattle.ps_hoa.specs.declared.fault.HoaCause.{HoaCause}
use Rattle.ps_text.specs.declared.faults.Fault.TheVariants.{Text, OutOfMemory}
use Rattle.ps_hoa.proofs.Grammar.FileLaws.{laws_file, joint_file}

module _ {X : Type 0} (view : X → FileData) (text : List ℕ) where
  exit : (e : HoaFault) (r : Result X HoaFault) → IsFaultOf text e → IsErrAnd r (λ y. y ≡ e) → IsFileAnswer view text r
  exit e r h i = let y = err_from_is_err_and r i in subst (IsFileAnswer view text) (sym (y.1 ∙ ap Err y.2)) h

  is_fault : (e : HoaFault) → IsRefusedAs text e → IsFaultOf text e
  is_fault e h = search rules

  pub refused_answers : (e : HoaFault) (r : Result X HoaFault) → IsRefusedAs text e → IsErrAnd r (λ y. y ≡ e) →
      IsFileAnswer view text r
  refused_answers e r h i = exit e r (is_fault e h) i

  module _ (stream : Stream Sign) (reads : (answer : Result FileData (Found HoaCause)) →
      PartAnswers hoa_causes file stream answer → ReadsFile text answer) where
    stopped : (e : HoaFault) → Stops hoa_causes file stream (found_of e) → IsFaultOf text e
    stopped (Text cause offset) s = search (rules, answers_fault, laws_file)
    stopped OutOfMemory s = tt

    pub header_fails : (e : HoaFault) (r : Result X HoaFault) → Stops hoa_causes header stream (found_of e) →
        IsErrAnd r (λ y. y ≡ e) → IsFileAnswer view text r
    header_fails e r s i = exit e r (stopped e (stops_first hoa_causes joint_file stream (found_of e) s)) i

    module _ (h : HeaderData) (mid : Stream Sign) (m : PartReads header stream h mid) where
      pub body_fails : (e : HoaFault) (r : Result X HoaFault) → Stops hoa_causes (body h) mid (found_of e) →
          IsErrAnd r (λ y. y ≡ e) → IsFileAnswer view text r
      body_fails e r s i = exit e r (search (rules, stopped, stops_behind, joint_file, stops_mapped)) i

      module _ (b : BodyData) (new : Stream Sign) (n : PartReads (body h) mid b new) where
        whole : PartReads file stream (file_of h b) new
        whole = reads_then joint_file m (reads_mapped (file_of h) n)

        pub ends_answers : (x : X) → view x ≡ file_of h b → new.pieces ≡ [] → IsFileAnswer view text (Ok x)
        ends_answers x v e = reads _ (subst (λ z. PartAnswers hoa_causes file stream (Ok z)) (sym v)
            (answers_ok laws_file stream (file_of h b) (subst (λ ps.
            IsRead file (signs stream.pieces) (file_of h b) (signs ps)) e whole.1)))

        pub trails_answers : (p : Piece Sign) (e : HoaFault) (r : Result X HoaFault) → p ≡ next_of new →
            (new.pieces ≡ [] → ⊥) → e ≡ Text (refusal_of hoa_causes (Some p.sign)) p.start →
            IsErrAnd r (λ y. y ≡ e) → IsFileAnswer view text r
        trails_answers p e r is some f i = exit e r (subst (IsFaultOf text) (sym f) (go new.pieces refl)) i
          where
            go : (ps : List (Piece Sign)) → new.pieces ≡ ps → IsFaultOf text
                (Text (refusal_of hoa_causes (Some p.sign)) p.start)
            go [] k = absurd (some k)
            go (q ∷ qs) k =
                let same : q ≡ p = sym (is ∙ ap (λ ps. next_of (record { pieces = ps; end = new.end })) k) in
                subst (λ z. IsFaultOf text (Text (refusal_of hoa_causes (Some z.sign)) z.start)) same
                (reads _ (answers_trailing laws_file stream new (file_of h b) q qs whole.0 whole.1 k))
