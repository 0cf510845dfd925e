-- Decision procedures that find the error with the smallest number at a symbol, or show that there is no error.
-- - `Decided A`: either a proof that A holds, or a proof that A does not hold
-- - `decide_not`, `decide_as`, `decide_both`, `decide_one`: combinations of decidable facts are decidable
-- - `decide_true`, `decide_none`: the result of a test, and whether an option is None, are decidable
-- - `decide_below`, `decide_in`: it is decidable whether a number is at most a limit, and whether it is in a list
-- - `judge_none`, `judge_cause`, `judge_one`, `judge_as`: the search for the error with the smallest number: among no
--   errors, among at most one, in the union of two sets, or in a set with the same errors as a set already searched
-- - `judge_if`, `judge_also`: the search for the error with the smallest number, if the errors are those of an optional
--   value, or if they occur only when a fact holds
use Rattle.std.proofs.Common.{◌≡◌, ℕ, suc, ◌≤◌, ◌⊎◌, Bool, true, List, [], ◌∷◌, length, get_or, refl, sym}
use Rattle.std.proofs.Common.{inl, rules, inr, Option, None, Some, arith}
use Rattle.std.specs.Prelude.{IfSome}
use Rattle.std.specs.List.{Contains}
use Rattle.std.proofs.lemmas.Bool.{cases_eq, cases_lt}
use Rattle.ps_text.proofs.ParsedAnswers.Outcomes.{Judged, bad, good, bad_only}
use Rattle.ps_text.proofs.Combinators.Simple.{none_is_some}

abbrev pub Decided : Type 0 → Type 0
Decided A = A ⊎ ¬ A

pub decide_not : {A : Type 0} → Decided A → Decided (¬ A)
decide_not cases = search rules

pub decide_as : {A B : Type 0} → (A → B) → (B → A) → Decided A → Decided B
decide_as to from cases = search rules

pub decide_both : {A B : Type 0} → Decided A → Decided B → Decided (A × B)
decide_both cases b = search rules

pub decide_one : {A B : Type 0} → Decided A → Decided B → Decided (A ⊎ B)
decide_one cases b = search rules

pub decide_true : (b : Bool) → Decided (b ≡ true)
decide_true b = search rules

pub decide_none : {A : Type 0} (o : Option A) → Decided (o ≡ None)
decide_none o = search (rules, none_is_some)

pub decide_below : (number limit : ℕ) → Decided (number ≤ limit)
decide_below m n = search (rules, cases_lt)

pub decide_in : (list : List ℕ) (number : ℕ) → Decided (Contains list number)
decide_in [] n = inr (λ c. omega (arith, c.1))
decide_in (x ∷ xs) n = go (cases_eq x n) (decide_in xs n)
  where
    behind : ¬ (x ≡ n) → (k : ℕ) → suc k ≤ length (x ∷ xs) → get_or (x ∷ xs) k n ≡ n → Contains xs n
    behind other k l e = grind arith

    go : (x ≡ n) ⊎ ¬ (x ≡ n) → Decided (Contains xs n) → Decided (Contains (x ∷ xs) n)
    go (inl e) d = inl (0, omega arith, e)
    go (inr other) (inl c) = inl (suc c.0, omega (arith, c.1), c.2)
    go (inr other) (inr none) = inr (λ c. none (behind other c.0 c.1 c.2))

module _ {F : Type 0} (number : F → ℕ) where
  pub judge_none : Judged number (λ f. ⊥)
  judge_none = good (λ f b. b)

  pub judge_cause : {A : Type 0} (cause : F) → Decided A → Judged number (λ f. A × (f ≡ cause))
  judge_cause cause (inl a) = bad_only number _ cause (a, refl) (λ g b. sym b.1)
  judge_cause cause (inr n) = good (λ f b. n b.0)

  pub judge_as : {P Q : F → Type 0} → ((cause : F) → P cause → Q cause) → ((cause : F) → Q cause → P cause) →
      Judged number P → Judged number Q
  judge_as to from (bad f b least) = bad f (to f b) (λ g c. least g (from g c))
  judge_as to from (good n) = good (λ f b. n f (from f b))

  pub judge_if : {A : Type 0} (o : Option A) (Bad : A → F → Type 0) → ((a : A) → Judged number (Bad a)) →
      Judged number (λ f. IfSome o (λ a. Bad a f) × (o ≡ None → ⊥))
  judge_if None Bad judge = good (λ f b. b.1 refl)
  judge_if (Some a) Bad judge = judge_as (λ f b. (b, λ e. none_is_some a (sym e))) (λ f b. b.0) (judge a)

  pub judge_also : {A : Type 0} {Bad : F → Type 0} → Decided A → Judged number Bad → Judged number (λ f. A × Bad f)
  judge_also (inl a) (bad f b least) = bad f (a, b) (λ g c. least g c.1)
  judge_also (inl a) (good none) = good (λ f b. none f b.1)
  judge_also (inr n) judged = good (λ f b. n b.0)

  pub judge_one : {P Q : F → Type 0} → Judged number P → Judged number Q → Judged number (λ f. P f ⊎ Q f)
  judge_one {P} {Q} (bad f b least) (bad g c low) = go (cases_lt (number g) (number f))
    where
      under_left : number f ≤ number g → (h : F) → P h ⊎ Q h → number f ≤ number h
      under_left l h (inl d) = least h d
      under_left l h (inr d) = omega (arith, l, low h d)

      under_right : number g ≤ number f → (h : F) → P h ⊎ Q h → number g ≤ number h
      under_right l h (inl d) = omega (arith, l, least h d)
      under_right l h (inr d) = low h d

      go : (suc (number g) ≤ number f) ⊎ (number f ≤ number g) → Judged number (λ h. P h ⊎ Q h)
      go (inl l) = bad g (inr c) (under_right (omega (arith, l)))
      go (inr l) = bad f (inl b) (under_left l)
  judge_one {P} {Q} (bad f b least) (good n) = bad f (inl b) go
    where
      go : (h : F) → P h ⊎ Q h → number f ≤ number h
      go h (inl d) = least h d
      go h (inr d) = absurd (n h d)
  judge_one {P} {Q} (good n) (bad g c low) = bad g (inr c) go
    where
      go : (h : F) → P h ⊎ Q h → number g ≤ number h
      go h (inl d) = absurd (n h d)
      go h (inr d) = low h d
  judge_one {P} {Q} (good n) (good m) = search (rules, good)
