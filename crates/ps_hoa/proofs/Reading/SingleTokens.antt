-- If the result of a function is right for the next token, the function has parsed a grammar of one token, or has
-- stopped at the grammar's first error.
use Rattle.std.proofs.Common.{rules, arith, ◌≡◌, ℕ, ◌⊎◌, List, [], ◌∷◌, Option, None, Some, Result, Ok, Err, refl, sym}
use Rattle.std.proofs.Common.{◌∙◌, ap, inl, inr}
use Rattle.ps_text.specs.Answers.{Piece, Stream}
use Rattle.ps_text.specs.Parts.{one}
use Rattle.ps_text.specs.Readers.{Meets}
use Rattle.ps_text.proofs.Combinators.Simple.{none_is_some, same_some}
use Rattle.ps_text.proofs.ParsedAnswers.MeetsLemmas.{meets_next, meets_bad_next, meets_refusal}
use Rattle.ps_hoa.specs.Causes.{hoa_causes, found_of, HoaFault}
use Rattle.ps_hoa.specs.Inner.Reads.{Takes, IsWorst, IsRefusal}
use Rattle.ps_hoa.specs.Scan.{next_of, behind_next}
use Rattle.ps_hoa.specs.Tokens.{Sign}
use Rattle.ps_hoa.specs.declared.fault.HoaCause.{HoaCause}
use Rattle.ps_text.specs.declared.faults.Fault.TheVariants.{Text, OutOfMemory}
use Rattle.ps_hoa.specs.declared.tokens.Kind.{Kind}
use Rattle.ps_hoa.specs.declared.tokens.Kind.TheVariants.{Finish}

-- the token that stands for the end of a text
abbrev pub end_sign : Sign
end_sign = record { kind = Finish; text = [] }

-- a grammar of one token, which accepts some token, and for which the end of the text is neither accepted nor an error
pub record IsOfSigns {V : Type 0} (take : Sign → Option V) (Bad : Sign → HoaCause → Type 0) : Type 0 where
  pub sign : Sign
  pub value : V
  pub taken : take sign ≡ Some value
  pub end : take end_sign ≡ None
  pub good : (f : HoaCause) → Bad end_sign f → ⊥

pub signs_of : {V : Type 0} {take : Sign → Option V} {Bad : Sign → HoaCause → Type 0} (kind : Kind) (text : List ℕ)
    {v : V} → take (record { kind = kind; text = text }) ≡ Some v → take end_sign ≡ None →
    ((f : HoaCause) → Bad end_sign f → ⊥) → IsOfSigns take Bad
signs_of kind text {v} taken end good = grind arith

module _ {V X : Type 0} (view : X → V) {take : Sign → Option V} {Bad : Sign → HoaCause → Type 0}
    (o : IsOfSigns take Bad) where
  at_end : (e offset : ℕ) (cause : HoaCause) (new : Stream Sign) → offset ≡ e →
      (IsWorst Bad end_sign cause ⊎ IsRefusal take Bad end_sign cause) →
      Meets found_of hoa_causes view (one take Bad) (record { pieces = []; end = e }) (Err (Text cause offset)) new
  at_end e offset cause new x (inl w) = absurd (o.good cause w.stands)
  at_end e offset cause new x (inr k) = meets_refusal found_of hoa_causes take Bad view
      (record { pieces = []; end = e }) new o.sign o.value o.taken (λ t h. absurd (none_is_some t h))
      (λ t f h b. none_is_some t h) (Text cause offset) (λ i. Some (record { cause = k.cause i; offset = x i }))

  at_sign : (p : Piece Sign) (ps : List (Piece Sign)) (e offset : ℕ) (cause : HoaCause) (new : Stream Sign) →
      offset ≡ p.start → (IsWorst Bad p.sign cause ⊎ IsRefusal take Bad p.sign cause) →
      Meets found_of hoa_causes view (one take Bad) (record { pieces = p ∷ ps; end = e }) (Err (Text cause offset)) new
  at_sign p ps e offset cause new x (inl w) =
      meets_bad_next found_of hoa_causes take Bad view (record { pieces = p ∷ ps; end = e }) new p.sign cause
      (Text cause offset) refl w.stands w.least (λ i. Some (record { cause = cause; offset = x i }))
  at_sign p ps e offset cause new x (inr k) = meets_refusal found_of hoa_causes take Bad view (record {
    pieces = p ∷ ps;
    end = e;
  }) new o.sign o.value o.taken (λ t h. ap take (sym (same_some p.sign t h)) ∙ k.none)
      (λ t f h b. grind (arith, same_some)) (Text cause offset) (λ i. Some (record { cause = k.cause i; offset = x i }))

  -- a function that returns the right result for the next token meets the contract of parsing a grammar of one token
  pub reads_one : (old new : Stream Sign) (r : Result X HoaFault) → Takes view take Bad (next_of old) r →
      new ≡ behind_next old → Meets found_of hoa_causes view (one take Bad) old r new
  reads_one old new r = go old.pieces old.end r
    where
      go : (ps : List (Piece Sign)) (e : ℕ) (r : Result X HoaFault) → Takes view take Bad
          (next_of (record { pieces = ps; end = e })) r → new ≡ behind_next (record { pieces = ps; end = e }) →
          Meets found_of hoa_causes view (one take Bad) (record { pieces = ps; end = e }) r new
      go [] e (Ok x) t n = absurd (none_is_some (view x) (sym o.end ∙ t.some))
      go [] e (Err (Text cause offset)) t n = at_end e offset cause new t.0 t.1
      go [] e (Err OutOfMemory) t n = tt
      go (p ∷ ps) e (Ok x) t n = search (rules, meets_next)
      go (p ∷ ps) e (Err (Text cause offset)) t n = at_sign p ps e offset cause new t.0 t.1
      go (p ∷ ps) e (Err OutOfMemory) t n = tt
