-- The grammar of a run of bytes has an outcome for each list of symbols. The outcome depends on the first symbol, whose
-- field `behind` has all bytes after it.
-- - `has_run`: the grammar of runs has an outcome for each list of symbols, if it can be decided which errors a run has
-- - `run_of`: the longest run of passing items at the start of a list
use Rattle.std.proofs.Common.{◌≡◌, ℕ, Bool, true, false, List, [], ◌∷◌, ◌++◌, Some, refl, rules, sym, ap, subst, arith}
use Rattle.std.specs.List.{AllByRecursion}
use Rattle.ps_text.specs.Answers.{first_of}
use Rattle.ps_text.specs.Parts.{IsRead, is_cause}
use Rattle.ps_text.specs.Outcomes.{Outcome, was_read, has_fault, HasOutcomes}
use Rattle.ps_text.specs.Runs.{AllOf, StopsBefore}
use Rattle.ps_text.specs.Bytes.{Seen, bytes_of, byte_causes, BeginsRun, IsBadRun, run}
use Rattle.ps_text.proofs.ParsedAnswers.Outcomes.{Judged, bad, good, has_refusal}
use Rattle.ps_text.proofs.Combinators.Simple.{none_is_some, same_some}
use Rattle.ps_text.proofs.Combinators.Splits.{same_head}
use Rattle.ps_text.proofs.BytesAndDigits.Bytes.Runs.{laws_run, bad_is, run_read}

-- the longest prefix of a list in which all items pass the test
pub record Spanned {X : Type 0} (q : X → Bool) (xs : List X) : Type 0 where
  pub text : List X
  pub rest : List X
  pub split : xs ≡ text ++ rest
  pub all : AllByRecursion (λ x. q x ≡ true) text
  pub longest : (x : X) → first_of rest ≡ Some x → q x ≡ false

pub run_of : {X : Type 0} {q : X → Bool} (xs : List X) → Spanned q xs
run_of [] = record { text = []; rest = []; split = refl; all = tt; longest = λ x e. absurd (none_is_some x e) }
run_of {X} {q} (x ∷ xs) = go (q x) refl (run_of xs)
  where
    go : (b : Bool) → q x ≡ b → Spanned q xs → Spanned q (x ∷ xs)
    go true e s = record {
      text = x ∷ s.text;
      rest = s.rest;
      split = ap (λ z. x ∷ z) s.split;
      all = (e, s.all);
      longest = s.longest;
    }
    go false e s = grind arith

all_bytes : (p : ℕ → Bool) (text : List Seen) → AllByRecursion (λ (s : Seen). p s.byte ≡ true) text →
    AllOf p (bytes_of text)
all_bytes p [] h = tt
all_bytes p (s ∷ text) h = (h.0, all_bytes p text h.1)

pub stops_bytes : (p : ℕ → Bool) (bytes : List ℕ) → ((b : ℕ) → first_of bytes ≡ Some b → p b ≡ false) →
    StopsBefore p bytes
stops_bytes p bytes h = search rules

module _ {V C : Type 0} (number : C → ℕ) (syntax : C) (p : ℕ → Bool) (see : ℕ → List ℕ → V)
    (Bad : List ℕ → C → Type 0) where
  -- the outcome of the grammar of runs, if the first byte passes the test
  module _ (t : Seen) (after : List Seen) (passes : p t.byte ≡ true) where
    abbrev seen : Spanned p t.behind
    seen = run_of t.behind

    abbrev whole : List ℕ
    whole = t.byte ∷ seen.text

    begins : BeginsRun p whole (t.byte ∷ t.behind)
    begins = search (rules, stops_bytes)

    taken : Spanned (λ (s : Seen). p s.byte) after
    taken = run_of after

    run_there : ((f : C) → Bad whole f → ⊥) → Outcome (byte_causes number syntax) (run p see Bad) (t ∷ after)
    run_there right = was_read _ taken.rest (subst (λ z. IsRead (run p see Bad) (t ∷ z) (see t.at
        (t.byte ∷ bytes_of taken.text)) taken.rest) (sym taken.split) (run_read p see Bad (t ∷ taken.text) taken.rest
        (omega arith) (passes, all_bytes p taken.text taken.all) taken.longest (λ u more f e b. right f (bad_is p see
        Bad begins (subst (λ z. IsBadRun p Bad z f) (sym (same_head t u (taken.text ++ taken.rest) more e)) b)))))

    judged : Judged number (Bad whole) → Outcome (byte_causes number syntax) (run p see Bad) (t ∷ after)
    judged (bad f b least) = has_fault f (t ∷ after) (record {
      front = [];
      split = refl;
      clean = λ front rest u g e n c. absurd (omega (arith, n));
      fault = is_cause t refl (refl, grind (arith, begins, bad)) (λ g c. least g (bad_is p see Bad begins c.1));
    })
    judged (good right) = run_there right

  -- there is a run of bytes that pass the test p, because the byte b passes it
  pub has_run : (b : ℕ) → p b ≡ true → ((bytes : List ℕ) → Judged number (Bad bytes)) →
      HasOutcomes (byte_causes number syntax) (run p see Bad)
  has_run b e judge = record { outcome = go }
    where
      at_sign : (t : Seen) (after : List Seen) (c : Bool) → p t.byte ≡ c →
          Outcome (byte_causes number syntax) (run p see Bad) (t ∷ after)
      at_sign t after true x = judged t after x (judge (whole t after x))
      at_sign t after false x = has_refusal (byte_causes number syntax) (laws_run p see Bad b e) (t ∷ after)
          (λ u i h. grind (arith, same_some t u i))

      go : (all : List Seen) → Outcome (byte_causes number syntax) (run p see Bad) all
      go [] = has_refusal (byte_causes number syntax) (laws_run p see Bad b e) [] (λ u i h. none_is_some u i)
      go (t ∷ after) = at_sign t after (p t.byte) refl
