-- Truths of formulas in rows of bits. (For private functions.)
use Rattle.std.specs.Prelude.{◌≡◌, ℕ, ◌+◌, ◌<◌, ◌⊎◌, Bool, true, false, List, length}
use Rattle.std.specs.Bool.{Decides}
use Rattle.ps_label.specs.Words.{lasso_word}
use Rattle.ps_formula.specs.declared.node.Node.{Node}
use Rattle.ps_formula.specs.declared.node.Node.TheVariants.{Until, Release, WeakUntil, Finally, Globally}
use Rattle.ps_formula.specs.declared.rows.Rows.{Rows}
use Rattle.ps_formula.specs.Formulas.{Formula, nth}
use Rattle.ps_formula.specs.Satisfaction.{Satisfies}
use Rattle.ps_formula.specs.Inner.Passes.{Along, Cut}
use Rattle.ps_formula.specs.Inner.Rows.{truth_in}

-- the rows are for a lasso with this stem and lap
pub record IsForLasso (stem lap : List ℕ) (rows : Rows) : Type 0 where
  pub stem_is : rows.stem ≡ length stem
  pub width_is : rows.width ≡ length stem + length lap

-- the first `count` rows have the truths of the formulas of a list along a lasso
pub record HasTruths (stem lap : List ℕ) (count : ℕ) (known : List Formula) (rows : Rows) : Type 0 where
  pub lasso : IsForLasso stem lap rows
  pub each : (k i : ℕ) → k < count → i < rows.width →
      Decides (truth_in rows k i) (Satisfies (nth known k) (lasso_word stem lap) i)

-- a fact about the operator and the two sides of a node that is a form of until or release
abbrev pub Temporal : List Formula → (ℕ → ℕ) → Node → (Bool → (A B : ℕ → Type 0) → Type 0) → Type 0
Temporal known w (Until f g) P = P true (Satisfies (nth known f) w) (Satisfies (nth known g) w)
Temporal known w (Release f g) P = P false (Satisfies (nth known f) w) (Satisfies (nth known g) w)
Temporal known w (WeakUntil f g) P =
    P false (Satisfies (nth known g) w) (λ j. Satisfies (nth known f) w j ⊎ Satisfies (nth known g) w j)
Temporal known w (Finally f) P = P true (λ _. Unit {0}) (Satisfies (nth known f) w)
Temporal known w (Globally f) P = P false (λ _. ⊥) (Satisfies (nth known f) w)
Temporal known w _ P = Unit {0}

-- the truth of a form of until or release at an index
abbrev pub TellsLater : List Formula → (ℕ → ℕ) → Node → ℕ → Bool → Type 0
TellsLater known w node i truth = Temporal known w node (λ is_until A B. Decides truth (Along is_until A B i))

-- the truth of a form of until or release at an index, if of its right side only the indices before n count
abbrev pub TellsPartly : List Formula → (ℕ → ℕ) → Node → (n i : ℕ) → Bool → Type 0
TellsPartly known w node n i truth =
    Temporal known w node (λ is_until A B. Decides truth (Along is_until A (Cut is_until B n) i))
