-- Passes over a lap, for each operator that is a form of until or release.
use Rattle.std.proofs.Common.{ℕ, ◌+◌, ◌<◌, ◌⊎◌, Bool, true, false, List, length}
use Rattle.std.proofs.Math.Nat.{le_refl}
use Rattle.std.proofs.lemmas.Bool.Decides.{Decides-like}
use Rattle.std.specs.Bool.{Decides}
use Rattle.ps_label.specs.Words.{lasso_word}
use Rattle.ps_formula.specs.declared.node.Node.{Node}
use Rattle.ps_formula.specs.declared.node.Node.TheVariants.{Constant, Proposition, Not, And, Or, Implies, Iff, Next}
use Rattle.ps_formula.specs.declared.node.Node.TheVariants.{Until, Release, WeakUntil, Finally, Globally}
use Rattle.ps_formula.specs.Formulas.{Formula, nth}
use Rattle.ps_formula.specs.Satisfaction.{Satisfies}
use Rattle.ps_formula.specs.Inner.Passes.{Along, Cut}
use Rattle.ps_formula.specs.Inner.Truths.{TellsLater, TellsPartly, Temporal}
use Rattle.ps_formula.proofs.Along.{HasPeriod, along_again, lap_decides}
use Rattle.ps_formula.proofs.LassoTruths.{again, always, either_again, word_repeats}

-- a fact about two sides that repeat with the lap holds for each form of until and release
temporal : (known : List Formula) (stem lap : List ℕ) (node : Node) (P Q : Bool → (A B : ℕ → Type 0) → Type 0) →
    ((is_until : Bool) (A B : ℕ → Type 0) → HasPeriod A (length stem) (length lap) →
    HasPeriod B (length stem) (length lap) → P is_until A B → Q is_until A B) →
    Temporal known (lasso_word stem lap) node P → Temporal known (lasso_word stem lap) node Q
temporal known stem lap node P Q each h =
    let S : ℕ → ℕ → Type 0 = λ k. Satisfies (nth known k) (lasso_word stem lap) in
    let p : (k : ℕ) → HasPeriod (S k) (length stem) (length lap) =
    λ k. again (nth known k) (lasso_word stem lap) (length stem) (length lap) (word_repeats stem lap) in
    elim node as (λ (n : Node). Temporal known (lasso_word stem lap) n P → Temporal known (lasso_word stem lap) n Q) [
      | Until f g ↦ λ t. each true (S f) (S g) (p f) (p g) t
      | Release f g ↦ λ t. each false (S f) (S g) (p f) (p g) t
      | WeakUntil f g ↦ λ t. each false (S g) (λ j. S f j ⊎ S g j) (p g) (either_again (p f) (p g)) t
      | Finally f ↦ λ t. each true (λ _. Unit {0}) (S f) (always (Unit {0})) (p f) t
      | Globally f ↦ λ t. each false (λ _. ⊥) (S f) (always ⊥) (p f) t
      | Constant b ↦ λ _. tt
      | Proposition q ↦ λ _. tt
      | Not f ↦ λ _. tt
      | And f g ↦ λ _. tt
      | Or f g ↦ λ _. tt
      | Implies f g ↦ λ _. tt
      | Iff f g ↦ λ _. tt
      | Next f ↦ λ _. tt
    ] h

-- the first pass over the lap tells the truth at its start
pub lap_tells : (known : List Formula) (stem lap : List ℕ) (node : Node) (truth : Bool) → 0 < length lap →
    TellsPartly known (lasso_word stem lap) node (length stem + length lap) (length stem) truth →
    TellsLater known (lasso_word stem lap) node (length stem) truth
lap_tells known stem lap node truth some h = temporal known stem lap node
    (λ is_until A B. Decides truth (Along is_until A (Cut is_until B (length stem + length lap)) (length stem)))
    (λ is_until A B. Decides truth (Along is_until A B (length stem)))
    (λ is_until A B a b d. lap_decides is_until A B truth b some d) h

-- the truth at the start of the lap is the truth behind its end
pub end_tells : (known : List Formula) (stem lap : List ℕ) (node : Node) (truth : Bool) →
    TellsLater known (lasso_word stem lap) node (length stem) truth →
    TellsLater known (lasso_word stem lap) node (length stem + length lap) truth
end_tells known stem lap node truth h = temporal known stem lap node
    (λ is_until A B. Decides truth (Along is_until A B (length stem)))
    (λ is_until A B. Decides truth (Along is_until A B (length stem + length lap)))
    (λ is_until A B a b d. let r = along_again is_until A B a b in
    Decides-like truth (r.on (length stem) (le_refl (length stem))) (r.back (length stem) (le_refl (length stem))) d) h
