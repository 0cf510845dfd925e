-- The truths of formulas along a lasso: they repeat with the lap, and each formula is true or false at each index.
use Rattle.std.proofs.Common.{◌≡◌, ℕ, ◌+◌, ◌-◌, ◌%◌, ◌<◌, ◌≤◌, ◌⊎◌, List, Bool, true, false, not, length, inl, inr, sym}
use Rattle.std.proofs.Common.{ap}
use Rattle.std.proofs.Common.{refl, ◌∙◌, arith, get_or, ◌&&◌, ◌||◌}
use Rattle.std.proofs.Math.Nat.{add-mod_right}
use Rattle.std.proofs.lemmas.Bool.{false≢true, le-ltb}
use Rattle.std.proofs.lemmas.Bool.Decides.{Decides-and, Decides-or, Decides-not}
use Rattle.std.specs.Bool.{Decides, beq}
use Rattle.std.specs.Prelude.{◌↔◌, IsTrue}
use Rattle.ps_label.specs.Truth.{is_in}
use Rattle.ps_label.specs.Words.{lasso_word, Repeats}
use Rattle.ps_formula.specs.Formulas.{Formula, constant, proposition, not_of, and_of, or_of, implies, iff, next, until}
use Rattle.ps_formula.specs.Formulas.{release, weak_until, finally, globally}
use Rattle.ps_formula.specs.Satisfaction.{Satisfies, IsDecidedWord}
use Rattle.ps_formula.proofs.Along.{HasPeriod, Told, decided, told_along}
use Rattle.ps_formula.proofs.Suffixes.{same_satisfied}

-- a word that repeats some letters from an index on satisfies the same formulas again
pub again : (f : Formula) (w : ℕ → ℕ) (from count : ℕ) → Repeats w from count → HasPeriod (Satisfies f w) from count
again f w from count repeats = record {
  on = λ i low h. same_satisfied f w w i (i + count)
      (record { each = λ k. sym (ap w (omega arith) ∙ repeats (i + k) (omega arith)) }) h;
  back = λ i low h. same_satisfied f w w (i + count) i
      (record { each = λ k. ap w (omega arith) ∙ repeats (i + k) (omega arith) }) h;
}

pub either_again : {A B : ℕ → Type 0} {from count : ℕ} → HasPeriod A from count → HasPeriod B from count →
    HasPeriod (λ j. A j ⊎ B j) from count
either_again a b = record {
  on = λ i low h. elim h [ inl h ↦ inl (a.on i low h) | inr h ↦ inr (b.on i low h) ];
  back = λ i low h. elim h [ inl h ↦ inl (a.back i low h) | inr h ↦ inr (b.back i low h) ];
}

pub always : (P : Type 0) {from count : ℕ} → HasPeriod (λ _. P) from count
always P = record { on = λ i low h. h; back = λ i low h. h }

-- ## Connectives

pub Decides-implies : {P Q : Type 0} (x y : Bool) → Decides x P → Decides y Q → Decides (not x || y) (P → Q)
Decides-implies true true p q = (λ _ _. q.0 refl, λ _. refl)
Decides-implies true false p q = (λ e. absurd (false≢true e), λ h. q.1 (h (p.0 refl)))
Decides-implies false y p q = (λ _ h. absurd (false≢true (p.1 h)), λ _. refl)

pub Decides-iff : {P Q : Type 0} (x y : Bool) → Decides x P → Decides y Q → Decides (beq x y) (P ↔ Q)
Decides-iff true true p q = (λ e. (λ _. q.0 refl, λ _. p.0 refl), λ h. refl)
Decides-iff true false p q = (λ e. absurd (false≢true e), λ h. q.1 (h.0 (p.0 refl)))
Decides-iff false true p q = (λ e. absurd (false≢true e), λ h. p.1 (h.1 (q.0 refl)))
Decides-iff false false p q = (λ e. (λ h. absurd (false≢true (p.1 h)), λ h. absurd (false≢true (q.1 h))), λ h. refl)

truth : (b : Bool) → Decides b (IsTrue b)
truth b = (λ e. e, λ e. e)

-- ## Each formula

pub told : (f : Formula) (w : ℕ → ℕ) {from count : ℕ} → Repeats w from count → 0 < count → (i : ℕ) →
    Told (Satisfies f w i)
told (constant b) w repeats some i = (b, truth b)
told (proposition p) w repeats some i = (is_in p (w i), truth (is_in p (w i)))
told (not_of f) w repeats some i = let s = told f w repeats some i in (not s.0, Decides-not s.0 s.1)
told (and_of f g) w repeats some i =
    let s = told f w repeats some i in
    let t = told g w repeats some i in
    (s.0 && t.0, Decides-and s.0 t.0 s.1 t.1)
told (or_of f g) w repeats some i =
    let s = told f w repeats some i in
    let t = told g w repeats some i in
    (s.0 || t.0, Decides-or s.0 t.0 s.1 t.1)
told (implies f g) w repeats some i =
    let s = told f w repeats some i in
    let t = told g w repeats some i in
    (not s.0 || t.0, Decides-implies s.0 t.0 s.1 t.1)
told (iff f g) w repeats some i =
    let s = told f w repeats some i in
    let t = told g w repeats some i in
    (beq s.0 t.0, Decides-iff s.0 t.0 s.1 t.1)
told (next f) w repeats some i = told f w repeats some (i + 1)
told (until f g) w {from} {count} repeats some i =
    told_along true (Satisfies f w) (Satisfies g w) (again f w from count repeats) (again g w from count repeats) some
    (told f w repeats some) (told g w repeats some) i
told (release f g) w {from} {count} repeats some i =
    told_along false (Satisfies f w) (Satisfies g w) (again f w from count repeats) (again g w from count repeats) some
    (told f w repeats some) (told g w repeats some) i
told (weak_until f g) w {from} {count} repeats some i =
    let a = again f w from count repeats in
    let b = again g w from count repeats in
    told_along false (Satisfies g w) (λ j. Satisfies f w j ⊎ Satisfies g w j) b (either_again a b) some
    (told g w repeats some)
    (λ j. let s = told f w repeats some j in
    let t = told g w repeats some j in
    (s.0 || t.0, Decides-or s.0 t.0 s.1 t.1)) i
told (finally f) w {from} {count} repeats some i =
    told_along true (λ _. Unit {0}) (Satisfies f w) (always (Unit {0})) (again f w from count repeats) some
    (λ _. (true, (λ _. tt, λ _. refl))) (told f w repeats some) i
told (globally f) w {from} {count} repeats some i =
    told_along false (λ _. ⊥) (Satisfies f w) (always ⊥) (again f w from count repeats) some
    (λ _. (false, (λ e. false≢true e, λ h. absurd h))) (told f w repeats some) i

-- ## Lassos

pub behind : (stem lap : List ℕ) (t : ℕ) → length stem ≤ t →
    lasso_word stem lap t ≡ get_or lap ((t - length stem) % length lap) 0
behind stem lap t high = rw (le-ltb t (length stem) high)

pub word_repeats : (stem lap : List ℕ) → Repeats (lasso_word stem lap) (length stem) (length lap)
word_repeats stem lap t low =
    let there = behind stem lap (t + length lap) (omega arith) in
    let place : t + length lap - length stem ≡ t - length stem + length lap = omega arith in
    there ∙ ap (λ k. get_or lap (k % length lap) 0) place
    ∙ ap (λ k. get_or lap k 0) (add-mod_right (t - length stem) (length lap)) ∙ sym (behind stem lap t low)

pub lasso_is_decided : (stem lap : List ℕ) → 0 < length lap → IsDecidedWord (lasso_word stem lap)
lasso_is_decided stem lap some = record {
  each = λ f i. let t = told f (lasso_word stem lap) (word_repeats stem lap) some i in decided t.0 t.1;
}
