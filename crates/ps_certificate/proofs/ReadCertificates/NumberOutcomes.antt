-- The grammar of a number obeys the grammar laws of the crate `ps_text`. Each condition on a number is decidable, so
-- parsing a number from any bytes has a result: a value or an error.
-- - `judged_by`: the grammar laws hold for the grammar of a number; a decidable condition states which numbers are
--   errors
-- - `number_by`: the same, where the condition is that the number disagrees with the game
-- - `decide_next`, `judge_priority`, `judge_zero`, `judge_missing`: the errors of numbers, and of the end of a line,
--   are decidable
use Rattle.std.proofs.Common.{◌≡◌, ℕ, ◌^◌, ◌<◌, ◌≤◌, ◌⊎◌, List, [], ◌∷◌, length, drop, refl, inl, inr, arith, rules}
use Rattle.std.specs.List.{Contains}
use Rattle.std.proofs.lemmas.Bool.{cases_lt, cases_eq}
use Rattle.ps_text.specs.Answers.{first_of}
use Rattle.ps_text.specs.Digits.{decimal_value}
use Rattle.ps_text.specs.Parts.{IsFaultAt}
use Rattle.ps_text.specs.Outcomes.{Outcome, was_read, has_fault, HasOutcomes}
use Rattle.ps_text.proofs.ParsedAnswers.Outcomes.{Judged, bad, good}
use Rattle.ps_text.proofs.ParsedAnswers.Decisions.{Decided, decide_not, decide_both, decide_one, decide_below}
use Rattle.ps_text.proofs.ParsedAnswers.Decisions.{decide_in, judge_cause}
use Rattle.ps_text.proofs.ParsedAnswers.Decisions.{judge_one, judge_as}
use Rattle.ps_text.proofs.Combinators.Simple.{none_is_some, same_some}
use Rattle.ps_certificate.specs.declared.fault.CertCause.{CertCause}
use Rattle.ps_certificate.specs.declared.fault.CertCause.TheVariants.{Syntax, OtherGame}
use Rattle.ps_certificate.specs.Faults.{cause_number}
use Rattle.ps_certificate.specs.Pairs.{Pairs, DoesNotRise}
use Rattle.ps_certificate.specs.Inner.Reading.{numeral}
use Rattle.ps_text.specs.Bytes.{Seen}
use Rattle.ps_certificate.specs.Texts.{causes, EndsField, Verdict, judged, OfOtherGame, number, NotNext, IsMissing}
use Rattle.ps_certificate.specs.Texts.{WrongPriority, IsZero}
use Rattle.ps_certificate.proofs.ReadCertificates.NumberPart.{Settled, IsWrongRun, run_length, settled_other}
use Rattle.ps_certificate.proofs.ReadCertificates.NumberPart.{nothing_there, too_large}
use Rattle.ps_certificate.proofs.ReadCertificates.NumberPart.{wrong_number, at_front, number_read, AtDigit, laws_judged}
use Rattle.ps_certificate.proofs.ReadCertificates.CertificateParts.{Lawful}

-- ## Numbers

no_length : {X : Type 0} (xs : List X) → length xs ≤ 0 → xs ≡ []
no_length [] l = refl
no_length (x ∷ xs) l = absurd (omega (arith, l))

module _ (Wrong : Verdict) (settled : Settled Wrong) where
  -- if the condition on a number is decidable, parsing the number has a result: a value or an error
  module _ (judge : (more : List ℕ) (n : ℕ) → Judged cause_number (Wrong more n)) where
    here : (all : List Seen) (f : CertCause) → IsFaultAt causes (judged Wrong) [] (first_of all) f →
        Outcome causes (judged Wrong) all
    here all f h = has_fault f all (at_front h)

    module _ (t : Seen) (after : List Seen) where
      abbrev seen : List ℕ
      seen = t.byte ∷ t.behind

      abbrev value : ℕ
      value = decimal_value (numeral seen)

      none_wrong : value < 2 ^ 64 → ((f : CertCause) → Wrong (drop (run_length seen) seen) value f → ⊥) →
          (f : CertCause) → IsWrongRun Wrong seen f → ⊥
      none_wrong h k f m = search rules

      small_number : 0 < run_length seen → value < 2 ^ 64 →
          Judged cause_number (Wrong (drop (run_length seen) seen) value) → Outcome causes (judged Wrong) (t ∷ after)
      small_number long small (bad f b least) =
          here (t ∷ after) f (wrong_number settled t.at seen long refl small refl b least)
      small_number long small (good right) =
          was_read _ _ (number_read Wrong settled t after long (none_wrong small right))

      some_number : 0 < run_length seen → (value < 2 ^ 64) ⊎ (2 ^ 64 ≤ value) →
          Outcome causes (judged Wrong) (t ∷ after)
      some_number long (inl small) = small_number long small (judge (drop (run_length seen) seen) value)
      some_number long (inr large) = here (t ∷ after) Syntax (too_large Wrong t.at seen long large)

      first_sign : (0 < run_length seen) ⊎ (run_length seen ≤ 0) → Outcome causes (judged Wrong) (t ∷ after)
      first_sign (inl long) = some_number long (cases_lt value (2 ^ 64))
      first_sign (inr none) = here (t ∷ after) Syntax (nothing_there Wrong t.at seen (no_length (numeral seen) none))

    has_judged : HasOutcomes causes (judged Wrong)
    has_judged = record { outcome = go }
      where
        go : (all : List Seen) → Outcome causes (judged Wrong) all
        go [] = here [] Syntax (nothing_there Wrong 0 [] refl)
        go (t ∷ after) = first_sign t after (cases_lt 0 (run_length (t.byte ∷ t.behind)))

    pub judged_by : Lawful (judged Wrong) AtDigit AtDigit ⊥
    judged_by = record { laws = laws_judged Wrong; has = has_judged }

-- ## The conditions on numbers

decide_end : (bytes : List ℕ) → Decided (EndsField bytes)
decide_end [] = inr (λ h. h)
decide_end (b ∷ more) = decide_one (cases_eq b 32) (decide_one (cases_eq b 10) (cases_eq b 58))

judge_other : (Wrong : ℕ → Type 0) → ((n : ℕ) → Decided (Wrong n)) → (more : List ℕ) (n : ℕ) →
    Judged cause_number (OfOtherGame Wrong more n)
judge_other Wrong decide more n = judge_as cause_number (λ f h. (h.1, h.0.0, h.0.1)) (λ f h. ((h.1, h.2), h.0))
    (judge_cause cause_number OtherGame (decide_both (decide_end more) (decide n)))

pub decide_next : (ps : List ℕ) (n : ℕ) → Decided (NotNext ps n)
decide_next ps n = search (rules, none_is_some, cases_eq, Decided, same_some)

decide_rise : (pairs : Pairs) (n : ℕ) → Decided (DoesNotRise pairs n)
decide_rise pairs n = search (rules, Decided, decide_below)

pub judge_priority : (ps : List ℕ) (pairs : Pairs) (more : List ℕ) (n : ℕ) →
    Judged cause_number (WrongPriority ps pairs more n)
judge_priority ps pairs more n = judge_as cause_number to from
    (search (rules, judge_one, judge_cause, decide_both, decide_end, decide_rise, decide_not, decide_in))
  where
    to : (f : CertCause) → ((EndsField more × DoesNotRise pairs n) × (f ≡ Syntax)) ⊎
        ((EndsField more × ¬ Contains ps n) × (f ≡ OtherGame)) → WrongPriority ps pairs more n f
    to f h = grind arith

    from : (f : CertCause) → WrongPriority ps pairs more n f →
        ((EndsField more × DoesNotRise pairs n) × (f ≡ Syntax)) ⊎ ((EndsField more × ¬ Contains ps n) × (f ≡ OtherGame))
    from f h = grind arith

pub judge_zero : (more : List ℕ) (n : ℕ) → Judged cause_number (IsZero more n)
judge_zero more n = judge_as cause_number (λ f h. (h.1, h.0)) (λ f h. (h.1, h.0))
    (judge_cause cause_number Syntax (cases_eq n 0))

pub judge_missing : (left : List ℕ) (s : Seen) → Judged cause_number (IsMissing left s)
judge_missing left s = judge_as cause_number (λ f h. (h.0.0, h.0.1, h.1)) (λ f h. ((h.0, h.1), h.2))
    (judge_cause cause_number OtherGame (decide_both (cases_eq s.byte 10) (decide_below 1 (length left))))

pub number_by : (Wrong : ℕ → Type 0) → ((n : ℕ) → Decided (Wrong n)) → Lawful (number Wrong) AtDigit AtDigit ⊥
number_by Wrong decide = judged_by (OfOtherGame Wrong) (settled_other Wrong) (judge_other Wrong decide)
