-- The truths in the rows of operands tell the truth of a formula.
use Rattle.std.proofs.Common.{◌≡◌, ℕ, ◌+◌, ◌<◌, ◌≤◌, Bool, true, false, List, length, subst, sym, ◌∙◌, refl, arith, inl}
use Rattle.std.proofs.Common.{inr}
use Rattle.std.proofs.Math.Nat.{eq-or-lt_of_le}
use Rattle.std.proofs.lemmas.Bool.{false≢true}
use Rattle.std.proofs.lemmas.Bool.Decides.{Decides-at, Decides-like}
use Rattle.std.specs.Bool.{Decides}
use Rattle.ps_label.specs.Words.{lasso_word}
use Rattle.ps_formula.specs.declared.rows.Rows.{Rows}
use Rattle.ps_formula.specs.Formulas.{Formula, nth}
use Rattle.ps_formula.specs.Satisfaction.{Satisfies}
use Rattle.ps_formula.specs.Inner.Rows.{truth_in}
use Rattle.ps_formula.specs.Inner.Truths.{HasTruths}
use Rattle.ps_formula.proofs.LassoTruths.{again, word_repeats}

pub always_decided : Decides true (Unit {0})
always_decided = (λ _. tt, λ _. refl)

pub never_decided : Decides false ⊥
never_decided = (false≢true, λ h. absurd h)

pub bit_tells : {stem lap : List ℕ} {row : ℕ} {known : List Formula} {rows : Rows} → HasTruths stem lap row known rows →
    (k at : ℕ) (b : Bool) → k < row → at < rows.width → b ≡ truth_in rows k at →
    Decides b (Satisfies (nth known k) (lasso_word stem lap) at)
bit_tells {rows = rows} truths k at b below within is =
    Decides-at b (truth_in rows k at) is (truths.each k at below within)

-- behind the last index of the first lap, the truths are those at the start of the lap
pub next_here : {stem lap : List ℕ} {row : ℕ} {known : List Formula} {rows : Rows} → HasTruths stem lap row known rows →
    (f at after : ℕ) (b : Bool) → f < row → at < rows.width → after < rows.width →
    (at + 1 < rows.width → after ≡ at + 1) →
    (at + 1 ≡ rows.width → after ≡ rows.stem) → b ≡ truth_in rows f after →
    Decides b (Satisfies (nth known f) (lasso_word stem lap) (at + 1))
next_here {stem} {lap} {row} {known} {rows} truths f at after b below within inside next wraps is =
    let w = lasso_word stem lap in
    let S : ℕ → Type 0 = Satisfies (nth known f) w in
    let told = bit_tells truths f after b below inside is in
    let low : at + 1 ≤ rows.width = omega arith in
    elim (eq-or-lt_of_le low) [
      | inl end ↦
          let repeats = again (nth known f) w (length stem) (length lap) (word_repeats stem lap) in
          let start : after ≡ length stem = wraps end ∙ truths.lasso.stem_is in
          let whole : length stem + length lap ≡ at + 1 = sym (end ∙ truths.lasso.width_is) in
          Decides-like b
          (λ s. subst S whole (repeats.on (length stem) (omega arith) (subst S start s)))
          (λ s. subst S (sym start) (repeats.back (length stem) (omega arith) (subst S (sym whole) s))) told
      | inr more ↦ subst (λ k. Decides b (S k)) (next more) told
    ]
