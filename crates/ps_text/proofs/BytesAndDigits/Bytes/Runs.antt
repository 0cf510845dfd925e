-- Grammars of runs of bytes satisfy the laws (`Laws`). A run without an error is parsed; a run with an error, or
-- without any byte, is a fault.
-- - `laws_run`: the grammar of runs satisfies the laws: a run begins and continues with bytes that pass the test
-- - `bad_is`: an error that the grammar has at the first symbol of a run is an error of this whole run
-- - `run_read`: a run without an error is parsed, if the byte after it does not pass the test
-- - `run_reads`, `run_bad`, `run_stops`: the result after the parser moved past a run without an error, past a run with
--   an error, or past no byte
use Rattle.std.proofs.Common.{◌≡◌, ℕ, ◌<◌, ◌≤◌, Bool, true, false, List, [], ◌∷◌, ◌++◌, length, Option, None, Some}
use Rattle.std.proofs.Common.{refl, sym, ap, ap₂, subst, ◌∙◌, arith, rules}
use Rattle.ps_text.specs.Answers.{Begins, Stream, signs, first_of}
use Rattle.ps_text.specs.Parts.{IsRead, is_cause, StopsAt}
use Rattle.ps_text.specs.Readers.{StopsWith, Reads}
use Rattle.ps_text.specs.Runs.{AllOf}
use Rattle.ps_text.specs.Bytes.{Seen, pieces_at, bytes_of, first_at, byte_causes, BeginsRun, IsBadRun, run}
use Rattle.ps_text.specs.Cursors.{Passes, stream_offset}
use Rattle.ps_text.proofs.Combinators.Splits.{same_head}
use Rattle.ps_text.proofs.BytesAndDigits.ByteRuns.{all_left, all_right, same_run}
use Rattle.ps_text.proofs.Combinators.Laws.{Laws}
use Rattle.ps_text.proofs.Combinators.Simple.{none_is_some}
use Rattle.ps_text.proofs.ParsedAnswers.OneAnswer.{signs_split}
use Rattle.ps_text.proofs.BytesAndDigits.Bytes.Pieces.{bytes_append, pieces_with, pieces_split, bytes_with, first_with}
use Rattle.ps_text.proofs.BytesAndDigits.Bytes.Pieces.{length_with}
use Rattle.ps_text.proofs.BytesAndDigits.Bytes.Pieces.{first_sees}
use Rattle.ps_text.proofs.BytesAndDigits.Bytes.Single.{Odd, stops_here}

module _ {V C : Type 0} (p : ℕ → Bool) (see : ℕ → List ℕ → V) (Bad : List ℕ → C → Type 0) where
  pub run_begins : (b : ℕ) → p b ≡ true → Begins (run p see Bad).IsText []
  run_begins b e = record {
    more = record { byte = b; at = 0; behind = [] } ∷ [];
    value = see 0 (b ∷ []);
    is_text = record { some = omega arith; all = (e, tt); value = refl };
  }

  head_passes : (t : Seen) (r bytes : List ℕ) → 0 < length r → AllOf p r → t.byte ∷ t.behind ≡ r ++ bytes →
      p t.byte ≡ true
  head_passes t [] bytes l h e = absurd (omega arith)
  head_passes t (b ∷ r) bytes l h e = ap p (same_head t.byte b t.behind (r ++ bytes) e) ∙ h.0

  abbrev pub AtRun : Seen → Type 0
  AtRun s = p s.byte ≡ true

  pub laws_run : (b : ℕ) → p b ≡ true → Laws (Odd C) (run p see Bad) AtRun AtRun ⊥
  laws_run b e = search (rules, run_begins, head_passes, all_right, bytes_append, none_is_some)

  -- an error that the grammar has at the first symbol of a run is an error of this whole run
  pub bad_is : {t : Seen} {r : List ℕ} {f : C} → BeginsRun p r (t.byte ∷ t.behind) → IsBadRun p Bad t f → Bad r f
  bad_is {t} {r} {f} x b = search (rules, same_run)

  -- a run that has no error is parsed, if the byte after it does not pass the test
  pub run_read : (text rest : List Seen) → 0 < length text → AllOf p (bytes_of text) →
      ((c : Seen) → first_of rest ≡ Some c → p c.byte ≡ false) →
      ((t : Seen) (more : List Seen) (f : C) → text ++ rest ≡ t ∷ more → IsBadRun p Bad t f → ⊥) →
      IsRead (run p see Bad) (text ++ rest) (see (first_at text) (bytes_of text)) rest
  run_read text rest some all longest right = record {
    text = text;
    split = refl;
    is_text = record { some = some; all = all; value = refl };
    stops = stops (first_of rest) longest;
    clean = λ front more t f e l c. right t more f (e ∙ ap (λ z. z ++ t ∷ more) c.0) c.1;
  }
    where
      stops : (there : Option Seen) → ((c : Seen) → there ≡ Some c → p c.byte ≡ false) →
          StopsAt (run p see Bad) text there
      stops None h = tt
      stops (Some c) h = λ b.
          let one : AllOf p (bytes_of (text ++ c ∷ []) ++ bytes_of b.more) = grind (arith, bytes_append) in
          let two : AllOf p (bytes_of text ++ c.byte ∷ []) = grind (arith, bytes_append, all_left) in
          grind (arith, all_right p (bytes_of text) (c.byte ∷ []) two)

  begins_there : {old new : Stream Seen} {r : List ℕ} → Passes p old new r → 0 < length r → (t : Seen)
      (rest : List Seen) → signs old.pieces ≡ t ∷ rest → BeginsRun p r (t.byte ∷ t.behind)
  begins_there {r = r} x some t rest e = search (rules, first_sees)

  pub run_reads : {old new : Stream Seen} {r : List ℕ} {v : V} → Passes p old new r → 0 < length r →
      ((f : C) → Bad r f → ⊥) → v ≡ see (stream_offset old) r → Reads (run p see Bad) old v new
  run_reads {old} {new} {r} {v} x some good value = (
    record { taken = pieces_with x.at r x.rest; split = split; end = x.end },
    subst (λ z. IsRead (run p see Bad) (signs old.pieces) z (signs new.pieces))
        (sym (value ∙ ap₂ see (sym x.place ∙ sym (first_with r x.rest some)) (sym bytes)))
        (subst (λ z. IsRead (run p see Bad) z (see (first_at text) (bytes_of text)) (signs new.pieces)) (sym parts)
        (run_read text (signs new.pieces) (grind (arith, length_with x.at r x.rest some))
        (subst (AllOf p) (sym bytes) x.all) (search (rules, x.new_is, x.at, x.rest, x.longest))
        (λ t more f e b. good f (bad_is (begins_there x some t more (parts ∙ e)) b)))),
  )
    where
      text : List Seen
      text = signs (pieces_with x.at r x.rest)

      bytes : bytes_of text ≡ r
      bytes = bytes_with x.at r x.rest

      split : old.pieces ≡ pieces_with x.at r x.rest ++ new.pieces
      split = x.old_is ∙ pieces_split x.at r x.rest ∙ ap (λ z. pieces_with x.at r x.rest ++ z) (sym x.new_is)

      parts : signs old.pieces ≡ text ++ signs new.pieces
      parts = signs_split old.pieces (pieces_with x.at r x.rest) new.pieces split

  module _ (number : C → ℕ) (syntax : C) where
    pub run_bad : {old new : Stream Seen} {r : List ℕ} (f : C) → Passes p old new r → 0 < length r → Bad r f →
        ((g : C) → Bad r g → number f ≤ number g)
        → StopsWith (byte_causes number syntax) (run p see Bad) old (record { cause = f; offset = stream_offset old })
    run_bad {old} {new} {r} f x some bad least = go r x some bad least
      where
        go : (r : List ℕ) → Passes p old new r → 0 < length r → Bad r f →
            ((g : C) → Bad r g → number f ≤ number g) →
            StopsWith (byte_causes number syntax) (run p see Bad) old (record { cause = f; offset = stream_offset old })
        go [] x some bad least = absurd (omega arith)
        go (b ∷ r) x some bad least =
            let sign : Seen = record { byte = b; at = x.at; behind = r ++ x.rest } in
            record {
              front = [];
              rest = pieces_at x.at ((b ∷ r) ++ x.rest);
              split = x.old_is;
              fault = record {
                front = [];
                split = ap signs x.old_is;
                clean = λ front more t g e n c. absurd (omega (arith, n));
                fault = is_cause sign refl (
                  refl,
                  grind (arith, begins_there),
                ) (λ g c. least g (bad_is (grind (arith, begins_there)) c.1));
              };
              offset = sym x.place;
            }

    pub run_stops : (b : ℕ) → p b ≡ true → {old new : Stream Seen} → Passes p old new [] →
        StopsWith (byte_causes number syntax) (run p see Bad) old
        (record { cause = syntax; offset = stream_offset old })
    run_stops b e x = stops_here number syntax (laws_run b e) (λ t n h. grind arith)
