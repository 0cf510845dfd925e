-- Lemmas about parsing a pair of a priority and its count in a compact certificate, including the cases in which
-- parsing fails.
-- - `zero_fails`, `positive_reads`: lemmas for the count in a pair, which must not be 0
-- - `priority_fails` to `priority_unknown`: lemmas for a pair whose priority has an error
-- - `priority_reads`: the priority of a pair is parsed
-- - `past_priority`, `past_colon`, `pair_priority`: what is still to be parsed of a pair after its priority, and after
--   its colon
use Rattle.std.proofs.Common.{◌≡◌, ℕ, ◌≤◌, ◌⊎◌, true, false, List, Option, Some, ap, ◌∙◌, Result, Err, IsErrAnd, refl}
use Rattle.std.proofs.Common.{sym, subst, inl, inr, arith, rules}
use Rattle.std.specs.Prelude.{slice_index}
use Rattle.std.specs.List.{Contains}
use Rattle.std.proofs.lemmas.Bool.{ltb-true, ltb-false}
use Rattle.std.proofs.lemmas.Result.{err_from_is_err_and}
use Rattle.std.proofs.lemmas.List.Elements.{Contains-get_or}
use Rattle.ps_text.specs.Answers.{Stream}
use Rattle.ps_text.specs.Bytes.{Seen, byte}
use Rattle.ps_text.specs.Parts.{then_by, mapped}
use Rattle.ps_text.specs.Readers.{Reads, Stops}
use Rattle.ps_text.specs.Faults.{found_of}
use Rattle.ps_text.specs.declared.faults.Fault.TheVariants.{Text}
use Rattle.ps_certificate.specs.declared.fault.CertCause.{CertCause}
use Rattle.ps_certificate.specs.declared.fault.CertCause.TheVariants.{Syntax, OtherGame}
use Rattle.ps_certificate.specs.Faults.{CertFault, cause_number}
use Rattle.ps_certificate.specs.Pairs.{Pairs, with_pair, DoesNotRise}
use Rattle.ps_certificate.specs.Inner.Prefixes.{IsAt}
use Rattle.ps_text.specs.Cursors.{next_byte, stream_offset}
use Rattle.ps_certificate.specs.Inner.Reading.{is_end, rises, IsNumberRead, TellsNumber, TellsPriority}
use Rattle.ps_certificate.specs.Texts.{causes, judged, WrongPriority, IsZero, pair}
use Rattle.ps_certificate.proofs.ReadCertificates.NumberPart.{settled_zero, settled_priority, syntax_least}
use Rattle.ps_certificate.proofs.ReadCertificates.NumberPart.{judged_reads, judged_fails}
use Rattle.ps_certificate.proofs.ReadCertificates.NumberPart.{judged_wrong}
use Rattle.ps_text.proofs.BytesAndDigits.Bytes.Lefts.{unread, past, stops_at}
use Rattle.ps_certificate.proofs.ReadCertificates.CertificateParts.{Left}
use Rattle.ps_certificate.proofs.ReadCertificates.TextLaws.{behind_space, chain_pair, chain_priority, chain_colon}
use Rattle.ps_text.proofs.BytesAndDigits.Bytes.Single.{byte_stops}
use Rattle.ps_certificate.proofs.ReadCertificates.ByteSteps.{ends_true, ends_false}

-- ## A count that is not 0

pub zero_fails : {old new : Stream Seen} {n : ℕ} {e : CertFault} → IsNumberRead old new n → n ≡ 0 →
    e ≡ Text Syntax (stream_offset old) → Stops causes (judged IsZero) old (found_of e)
zero_fails r none is = judged_wrong settled_zero Syntax r (refl, none) (λ g w. syntax_least g) is

pub positive_reads : {old new : Stream Seen} {n : ℕ} → IsNumberRead old new n → (n ≡ 0 → ⊥) →
    Reads (judged IsZero) old n new
positive_reads r some = judged_reads IsZero settled_zero r (λ f w. some w.1)

-- ## The priority of a count

rises_not : {last : Option ℕ} (pairs : Pairs) (n : ℕ) → pairs.last ≡ last → rises last n ≡ true → DoesNotRise pairs n
    → ⊥
rises_not {last} pairs n same e h = search (rules, ltb-true)

stays_below : {last : Option ℕ} (pairs : Pairs) (n : ℕ) → pairs.last ≡ last → rises last n ≡ false → DoesNotRise pairs n
stays_below {last} pairs n same e = search (rules, ltb-false)

no_colon : (old : Stream Seen) → is_end (next_byte old) ≡ false → next_byte old ≡ Some 58 → ⊥
no_colon old e x = let y : true ≡ false = ap is_end (sym x) ∙ e in cc

module _ (ps : List ℕ) (last : Option ℕ) (pairs : Pairs) (same : pairs.last ≡ last) (old : Stream Seen) where
  abbrev Wrong : List ℕ → ℕ → CertCause → Type 0
  Wrong = WrongPriority ps pairs

  pub priority_fails : (new : Stream Seen) (e : CertFault) → TellsNumber old (Err e) new
      → TellsPriority ps pairs old (Err e) new
  priority_fails new e h = inl (judged_fails (WrongPriority ps pairs) h)

  module _ (mid : Stream Seen) (n : ℕ) (r : IsNumberRead old mid n) where
    pub priority_open : (new : Stream Seen) {e : CertFault} → is_end (next_byte mid) ≡ false →
        e ≡ Text Syntax (stream_offset mid)
        → TellsPriority ps pairs old (Err e) new
    priority_open new {e} h is = inr (
      n,
      mid,
      judged_reads (WrongPriority ps pairs) (settled_priority ps pairs) r
          (λ f w. ends_false r h w.0),
      byte_stops cause_number 58 mid (no_colon mid h) is,
    )

    pub priority_low : (new : Stream Seen) {e : CertFault} → is_end (next_byte mid) ≡ true → rises last n ≡ false
        → e ≡ Text Syntax (stream_offset old) → TellsPriority ps pairs old (Err e) new
    priority_low new h low is = inl (judged_wrong (settled_priority ps pairs) Syntax r
        (ends_true r h, inl (refl, stays_below pairs n same low)) (λ g w. syntax_least g) is)

    pub priority_unknown : (new : Stream Seen) {e : CertFault} → is_end (next_byte mid) ≡ true → rises last n ≡ true
        → (Contains ps n → ⊥) → e ≡ Text OtherGame (stream_offset old) → TellsPriority ps pairs old (Err e) new
    priority_unknown new h up none is = inl (judged_wrong (grind (arith, settled_priority)) OtherGame r
        (grind (arith, ends_true), inr (refl, none)) (λ g w. least g w.1) is)
      where
        least : (g : CertCause) → ((g ≡ Syntax) × DoesNotRise pairs n) ⊎ ((g ≡ OtherGame) × ¬ Contains ps n)
            → cause_number OtherGame ≤ cause_number g
        least g h = grind (arith, rises_not)

    pub priority_reads : {place : ℕ} → rises last n ≡ true → IsAt ps n place
        → Reads (judged (WrongPriority ps pairs)) old (slice_index ps place) mid
    priority_reads {place} up at = subst (λ v. Reads (judged (WrongPriority ps pairs)) old v mid)
        (sym at.is) (judged_reads (WrongPriority ps pairs) (settled_priority ps pairs) r (λ f w. right f w.1))
      where
        right : (f : CertCause) → ((f ≡ Syntax) × DoesNotRise pairs n) ⊎ ((f ≡ OtherGame) × ¬ Contains ps n) → ⊥
        right f h = search (rules, rises_not, Contains-get_or)

pub priority_exits : (ps : List ℕ) (pairs : Pairs) (old new : Stream Seen) (e : CertFault) (r : Result ℕ CertFault)
    → TellsPriority ps pairs old (Err e) new → IsErrAnd r (λ y. y ≡ e) → TellsPriority ps pairs old r new
priority_exits ps pairs old new e r m i = search (rules, err_from_is_err_and)

-- ## The pair

-- the part of the pair's grammar that remains after its space, its priority and its colon
module _ (ps : List ℕ) (pairs : Pairs) {old mid : Stream Seen} (m : Reads {F = CertCause} (byte 32) old tt mid) where
  past_space : Left (pair ps pairs) old (behind_space ps pairs) mid
  past_space = past (chain_pair ps pairs) unread m

  pub past_priority : {p : ℕ} {next : Stream Seen} → Reads (judged (WrongPriority ps pairs)) mid p next →
      Left (pair ps pairs) old (then_by (byte 58) (λ _. mapped (λ m. with_pair pairs p m) (judged IsZero))) next
  past_priority k = past (chain_priority ps pairs) past_space k

  pub past_colon : {p : ℕ} {next last : Stream Seen} → Reads (judged (WrongPriority ps pairs)) mid p next →
      Reads {F = CertCause} (byte 58) next tt last →
      Left (pair ps pairs) old (mapped (λ m. with_pair pairs p m) (judged IsZero)) last
  past_colon {p} k c = past (chain_colon pairs p) (past_priority k) c

  pub pair_priority : (e : CertFault) (new : Stream Seen) → TellsPriority ps pairs mid (Err e) new →
      Stops causes (pair ps pairs) old (found_of e)
  pair_priority e new (inl s) = stops_at (chain_priority ps pairs) past_space (found_of e) s
  pair_priority e new (inr s) = stops_at (chain_colon pairs s.0) (past_priority s.2) (found_of e) s.3
