-- Satisfaction of a formula by a word at an index. A word is a function from indices, which begin at 0, to letters.
use Rattle.std.specs.Prelude.{◌↔◌, ℕ, ◌+◌, ◌<◌, ◌≤◌, ◌⊎◌, IsTrue}
use Rattle.ps_label.specs.Truth.{is_in}
use Rattle.ps_formula.specs.Formulas.{Formula, constant, proposition, not_of, and_of, or_of, implies, iff, next, until}
use Rattle.ps_formula.specs.Formulas.{release, weak_until, finally, globally}

-- until: B holds at some index from i on, and A at each index from i on before that
pub record Reaches (A B : ℕ → Type 0) (i : ℕ) : Type 0 where
  pub end : ℕ
  pub later : i ≤ end
  pub there : B end
  pub before : (k : ℕ) → i ≤ k → k < end → A k

-- release: at each index from i on B holds, or A holds at an index from i on before it
pub record Keeps (A B : ℕ → Type 0) (i : ℕ) : Type 0 where
  pub each : (j : ℕ) → i ≤ j → B j ⊎ ((k : ℕ) × (i ≤ k) × (k < j) × A k)

-- the word satisfies the formula at an index
abbrev pub Satisfies : Formula → (ℕ → ℕ) → ℕ → Type 0
Satisfies (constant b) w i = IsTrue b
Satisfies (proposition p) w i = IsTrue (is_in p (w i))
Satisfies (not_of f) w i = ¬ Satisfies f w i
Satisfies (and_of f g) w i = Satisfies f w i × Satisfies g w i
Satisfies (or_of f g) w i = Satisfies f w i ⊎ Satisfies g w i
Satisfies (implies f g) w i = Satisfies f w i → Satisfies g w i
Satisfies (iff f g) w i = (Satisfies f w i) ↔ (Satisfies g w i)
Satisfies (next f) w i = Satisfies f w (i + 1)
Satisfies (until f g) w i = Reaches (Satisfies f w) (Satisfies g w) i
Satisfies (release f g) w i = Keeps (Satisfies f w) (Satisfies g w) i
Satisfies (weak_until f g) w i = Keeps (Satisfies g w) (λ j. Satisfies f w j ⊎ Satisfies g w j) i
Satisfies (finally f) w i = Reaches (λ _. Unit {0}) (Satisfies f w) i
Satisfies (globally f) w i = Keeps (λ _. ⊥) (Satisfies f w) i

-- each formula is true or false at each index of the word
pub record IsDecidedWord (w : ℕ → ℕ) : Type 0 where
  pub each : (f : Formula) (i : ℕ) → Satisfies f w i ⊎ (¬ Satisfies f w i)
