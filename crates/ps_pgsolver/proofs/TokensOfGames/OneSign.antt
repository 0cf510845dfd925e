-- Lemmas about a parsing function that reads one token. If the function's result agrees with the grammar for each
-- token, the function parses that part of the grammar correctly, whatever the type of errors is.
use Rattle.std.proofs.Common.{◌≡◌, ℕ, ◌≤◌, Option, None, Some, Result, Ok, Err, refl, sym, ap, rules, subst, ◌∙◌, arith}
use Rattle.ps_text.specs.Answers.{Stream, next_of, offset_of}
use Rattle.ps_text.specs.Parts.{Causes, one, refusal_of}
use Rattle.ps_text.specs.Readers.{tail, Meets}
use Rattle.ps_text.specs.Faults.{found_of}
use Rattle.ps_text.specs.declared.faults.Fault.{Fault}
use Rattle.ps_text.specs.declared.faults.Fault.TheVariants as faults
use Rattle.ps_text.proofs.Combinators.Simple.{same_some, none_is_some}
use Rattle.ps_text.proofs.ParsedAnswers.MeetsLemmas.{meets_next, meets_bad_next, meets_refusal}
use Rattle.ps_pgsolver.specs.Signs.{Sign}

-- the result of a parsing function for a token at an offset agrees with what the grammar says
pub data Fits {F V : Type 0} (number : F → ℕ) (syntax : F) (take : Sign → Option V) (Bad : Sign → F → Type 0) (t : Sign)
    (at : ℕ) (r : Result V (Fault F)) : Type 0 where
  taken : (v : V) → take t ≡ Some v → ((f : F) → Bad t f → ⊥) → r ≡ Ok v → Fits number syntax take Bad t at r
  bad : (f : F) → Bad t f → ((g : F) → Bad t g → number f ≤ number g) → r ≡ Err (faults.Text f at) →
      Fits number syntax take Bad t at r
  refused : take t ≡ None → ((f : F) → Bad t f → ⊥) → r ≡ Err (faults.Text syntax at) →
      Fits number syntax take Bad t at r

-- no token is an error by itself: it is an error only where the grammar does not allow it
abbrev pub sign_causes : {F : Type 0} → (F → ℕ) → F → Causes Sign F
sign_causes number syntax = record { number = number; own = λ _. None; syntax = syntax }

-- if a function's result agrees with the grammar for every token, the function parses the part `one take Bad` of the
-- grammar
pub one_reads : {F V : Type 0} (number : F → ℕ) (syntax : F) {take : Sign → Option V} {Bad : Sign → F → Type 0}
    (s : Sign) {w : V} → take s ≡ Some w → (answer : Option Sign → ℕ → Result V (Fault F)) →
    ((t : Sign) (at : ℕ) → Fits number syntax take Bad t at (answer (Some t) at)) →
    ((at : ℕ) → answer None at ≡ Err (faults.Text syntax at)) →
    (old : Stream Sign) {new : Stream Sign} {r : Result V (Fault F)} →
    new ≡ tail old → r ≡ answer (next_of old) (offset_of old.pieces old.end) →
    Meets found_of (sign_causes number syntax) (λ v. v) (one take Bad) old r new
one_reads {F} {V} number syntax {take} {Bad} s {w} sw answer fits none old {new} {r} n e = go (next_of old) refl
  where
    at : ℕ
    at = offset_of old.pieces old.end

    Goal : Result V (Fault F) → Type 0
    Goal x = Meets found_of (sign_causes number syntax) (λ v. v) (one take Bad) old x new

    known : (t : Sign) → next_of old ≡ Some t → (x : Result V (Fault F)) → r ≡ x →
        Fits number syntax take Bad t at x → Goal x
    known t h x q (taken v k good y) = subst Goal (sym y) (search (rules, meets_next))
    known t h x q (bad f b least y) = subst Goal (sym y) (search (rules, meets_bad_next, at))
    known t h x q (refused k good y) = subst Goal (sym y)
        (meets_refusal found_of (sign_causes number syntax) take Bad (λ z. z) old new s w sw
        (λ u g. ap take (same_some u t (sym g ∙ h))
        ∙ k) (λ u f g b. good f (subst (λ z. Bad z f) (same_some u t (sym g ∙ h)) b)) (faults.Text syntax at)
        (sym (ap (λ o. Some (record { cause = refusal_of (sign_causes number syntax) o; offset = at })) h)))

    ended : next_of old ≡ None → Goal (Err (faults.Text syntax at))
    ended h = meets_refusal found_of (sign_causes number syntax) take Bad (λ z. z) old new s w sw
        (λ u g. absurd (none_is_some u (sym h ∙ g))) (λ u f g b. absurd (none_is_some u (sym h ∙ g)))
        (faults.Text syntax at) (sym (ap (λ o. Some (record {
          cause = refusal_of (sign_causes number syntax) o;
          offset = at;
        })) h))

    go : (o : Option Sign) → next_of old ≡ o → Goal r
    go None h = grind (arith, ended h)
    go (Some t) h = let x : r ≡ answer (Some t) at = e ∙ ap (λ o. answer o at) h in
        subst Goal (sym x) (known t h (answer (Some t) at) x (fits t at))
