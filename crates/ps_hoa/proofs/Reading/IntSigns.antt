-- Lemmas about an `INT` that is checked first for the errors of the relation B, then for those of the relation E. No
-- error of E has a smaller number than any error of B.
-- - `takes_err`: if the check for the errors of B fails, its error is also the right result of checking for the errors
--   of both relations
-- - `takes_further`: if the `INT` has no error of B, its error of E with the smallest number has the smallest number of
--   all its errors
-- - `takes_both`: if the check for the errors of B succeeds, and the `INT` has no error of E, the `INT` is accepted
use Rattle.std.proofs.Common.{◌≡◌, ℕ, ◌≤◌, ◌⊎◌, Option, None, Some, IfSome, Result, Err, IsErrAnd, sym, subst, inl, inr}
use Rattle.std.proofs.Common.{◌∙◌, arith, false, rules}
use Rattle.std.proofs.lemmas.Result.{err_from_is_err_and}
use Rattle.ps_text.specs.Answers.{Piece}
use Rattle.ps_text.proofs.Combinators.Simple.{none_is_some, same_some}
use Rattle.ps_hoa.specs.Tokens.{Sign}
use Rattle.ps_hoa.specs.Causes.{cause_number, HoaFault}
use Rattle.ps_hoa.specs.Grammar.Header.{HeaderData, int_in}
use Rattle.ps_hoa.specs.Grammar.Body.{BodyData, BadIn, IsBadRow, has_row}
use Rattle.ps_hoa.specs.Inner.Reads.{Takes, IsTaken, IsWorst, IsRefusal}
use Rattle.ps_hoa.specs.declared.fault.HoaCause.{HoaCause}
use Rattle.ps_hoa.specs.declared.fault.HoaCause.TheVariants.{StateTwice}

-- if an option is not `None`, its number has the property that `IfSome` states
there : (o : Option ℕ) (P : ℕ → Type 0) → IfSome o P → (o ≡ None → ⊥) → (n : ℕ) × (o ≡ Some n) × P n
there o P h k = search rules

holds : (o : Option ℕ) (P : ℕ → Type 0) (n : ℕ) → o ≡ Some n → P n → IfSome o P
holds o P n e h = subst (λ z. IfSome z P) (sym e) h

is_there : (o : Option ℕ) (n : ℕ) → o ≡ Some n → o ≡ None → ⊥
is_there o n e k = none_is_some n (sym k ∙ e)

pub bad_at : (Bad : ℕ → HoaCause → Type 0) (s : Sign) (f : HoaCause) (n : ℕ) → int_in s ≡ Some n →
    Bad n f → BadIn Bad s f
bad_at Bad s f n e b = (holds (int_in s) (λ m. Bad m f) n e b, is_there (int_in s) n e)

pub bad_of : (Bad : ℕ → HoaCause → Type 0) (s : Sign) (f : HoaCause) (n : ℕ) → int_in s ≡ Some n →
    BadIn Bad s f → Bad n f
bad_of Bad s f n e b = search (rules, there, same_some)

module _ (B E : ℕ → HoaCause → Type 0) where
  abbrev pub BothBad : ℕ → HoaCause → Type 0
  BothBad n f = B n f ⊎ E n f

  module _ (later : (n : ℕ) (f g : HoaCause) → B n f → E n g → cause_number f ≤ cause_number g) where
    worst : (s : Sign) (f : HoaCause) → IsWorst (BadIn B) s f → IsWorst (BadIn BothBad) s f
    worst s f w = let t = there (int_in s) (λ n. B n f) w.stands.0 w.stands.1 in go t.0 t.1 t.2
      where
        go : (n : ℕ) → int_in s ≡ Some n → B n f → IsWorst (BadIn BothBad) s f
        go n e b = search (rules, bad_at, bad_of)

    refusal : (s : Sign) (f : HoaCause) → IsRefusal int_in (BadIn B) s f → IsRefusal int_in (BadIn BothBad) s f
    refusal s f r = record { none = r.none; good = λ g b. b.1 r.none; cause = r.cause }

    takes_fault : (p : Piece Sign) (e : HoaFault) → Takes {X = ℕ} (λ n. n) int_in (BadIn B) p (Err e) →
        Takes {X = ℕ} (λ n. n) int_in (BadIn BothBad) p (Err e)
    takes_fault p e h = search (rules, worst, refusal)

    pub takes_err : (p : Piece Sign) (e : HoaFault) (r : Result ℕ HoaFault) →
        Takes {X = ℕ} (λ n. n) int_in (BadIn B) p (Err e) → IsErrAnd r (λ y. y ≡ e) →
        Takes (λ n. n) int_in (BadIn BothBad) p r
    takes_err p e r t i = search (rules, err_from_is_err_and, takes_fault)

  pub takes_further : (p : Piece Sign) (n : ℕ) (f : HoaCause) → IsTaken int_in (BadIn B) p.sign n → E n f →
      ((g : HoaCause) → E n g → cause_number f ≤ cause_number g) → IsWorst (BadIn BothBad) p.sign f
  takes_further p n f k b least = search (rules, bad_at, go, bad_of)
    where
      go : (g : HoaCause) → BothBad n g → cause_number f ≤ cause_number g
      go g (inl c) = absurd (k.good g (bad_at B p.sign g n k.some c))
      go g (inr c) = least g c

  pub takes_both : (s : Sign) (n : ℕ) → IsTaken int_in (BadIn B) s n → ((f : HoaCause) → E n f → ⊥) →
      IsTaken int_in (BadIn BothBad) s n
  takes_both s n k none = record { some = k.some; good = λ f b. go f (bad_of BothBad s f n k.some b) }
    where
      go : (f : HoaCause) → BothBad n f → ⊥
      go f (inl c) = k.good f (bad_at B s f n k.some c)
      go f (inr c) = none f c

-- the number of a state that is accepted is the number of no earlier row
pub row_new : (h : HeaderData) (b : BodyData) (n : ℕ) (s : Sign) → IsTaken int_in (BadIn (IsBadRow h b)) s n →
    has_row n b.rows ≡ false
row_new h b n s t = grind (arith, t.good StateTwice, bad_at (IsBadRow h b) s StateTwice n t.some)
