-- The rows of truths while one row after another is filled.
use Rattle.std.proofs.Common.{◌≡◌, ◌≢◌, ℕ, ◌+◌, ◌<◌, ◌≤◌, Bool, List, subst, sym, ◌∙◌, arith, inl, inr}
use Rattle.std.proofs.Math.Nat.{eq-or-lt_of_le}
use Rattle.std.proofs.lemmas.Bool.Decides.{Decides-at}
use Rattle.std.specs.Bool.{Decides}
use Rattle.ps_label.specs.Words.{lasso_word}
use Rattle.ps_formula.specs.declared.node.Node.{Node}
use Rattle.ps_formula.specs.declared.node.Node.TheVariants.{Constant, Proposition, Not, And, Or, Implies, Iff, Next}
use Rattle.ps_formula.specs.declared.node.Node.TheVariants.{Until, Release, WeakUntil, Finally, Globally}
use Rattle.ps_formula.specs.declared.rows.Rows.{Rows}
use Rattle.ps_formula.specs.Formulas.{Formula, formula_of, nth}
use Rattle.ps_formula.specs.Satisfaction.{Satisfies}
use Rattle.ps_formula.specs.Inner.Rows.{SetsTruth, truth_in}
use Rattle.ps_formula.specs.Inner.Truths.{HasTruths, IsForLasso, TellsLater}

pub later_told : (known : List Formula) (w : ℕ → ℕ) (node : Node) (i : ℕ) (truth : Bool) →
    Decides truth (Satisfies (formula_of known node) w i) → TellsLater known w node i truth
later_told known w (Until f g) i truth d = d
later_told known w (Release f g) i truth d = d
later_told known w (WeakUntil f g) i truth d = d
later_told known w (Finally f) i truth d = d
later_told known w (Globally f) i truth d = d
later_told known w (Constant b) i truth d = tt
later_told known w (Proposition p) i truth d = tt
later_told known w (Not f) i truth d = tt
later_told known w (And f g) i truth d = tt
later_told known w (Or f g) i truth d = tt
later_told known w (Implies f g) i truth d = tt
later_told known w (Iff f g) i truth d = tt
later_told known w (Next f) i truth d = tt

pub lasso_kept : {stem lap : List ℕ} {old new : Rows} {row at : ℕ} {truth : Bool} → IsForLasso stem lap old →
    SetsTruth old row at truth new → IsForLasso stem lap new
lasso_kept lasso sets = record { stem_is = sets.stem ∙ lasso.stem_is; width_is = sets.width ∙ lasso.width_is }

-- earlier rows stay
pub truths_kept : {stem lap : List ℕ} {known : List Formula} {old new : Rows} {row at : ℕ} {truth : Bool} →
    HasTruths stem lap row known old → SetsTruth old row at truth new → HasTruths stem lap row known new
truths_kept {stem} {lap} {known} {old} {new} {row} truths sets = record {
  lasso = lasso_kept truths.lasso sets;
  each = λ k i below within.
      let inside : i < old.width = subst (λ n. i < n) sets.width within in
      let other : k ≢ row = λ e. omega arith in
      Decides-at (truth_in new k i) (truth_in old k i) (sets.others k i inside (inl other))
      (truths.each k i below inside);
}

-- one more bit of the row has the truth
pub more_done : (P : ℕ → Type 0) {old new : Rows} {row at : ℕ} {truth : Bool} → SetsTruth old row at truth new →
    Decides truth (P at) → ((i : ℕ) → at < i → i < old.width → Decides (truth_in old row i) (P i)) →
    (i : ℕ) → at ≤ i → i < new.width → Decides (truth_in new row i) (P i)
more_done P {old} {new} {row} {at} {truth} sets here later i low within = elim (eq-or-lt_of_le low) [
  | inl is ↦ subst (λ k. Decides (truth_in new row k) (P k)) is
      (Decides-at (truth_in new row at) truth sets.here here)
  | inr more ↦
      let inside : i < old.width = subst (λ n. i < n) sets.width within in
      let other : i ≢ at = λ e. omega arith in
      Decides-at (truth_in new row i) (truth_in old row i) (sets.others row i inside (inr other)) (later i more inside)
]

-- the row is filled
pub row_done : {stem lap : List ℕ} {known : List Formula} {rows : Rows} {row : ℕ} (node : Node) →
    HasTruths stem lap row known rows → nth known row ≡ formula_of known node →
    ((i : ℕ) → i < rows.width →
    Decides (truth_in rows row i) (Satisfies (formula_of known node) (lasso_word stem lap) i)) →
    HasTruths stem lap (row + 1) known rows
row_done {stem} {lap} {known} {rows} {row} node truths is done = record {
  lasso = truths.lasso;
  each = λ k i below within.
      let low : k ≤ row = omega arith in
      elim (eq-or-lt_of_le low) [
        | inl here ↦
            subst (λ j. Decides (truth_in rows j i) (Satisfies (nth known j) (lasso_word stem lap) i)) (sym here)
            (subst (λ (f : Formula). Decides (truth_in rows row i) (Satisfies f (lasso_word stem lap) i)) (sym is)
            (done i within))
        | inr earlier ↦ truths.each k i earlier within
      ];
}
