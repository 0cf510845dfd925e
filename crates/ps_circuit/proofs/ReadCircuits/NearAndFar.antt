-- Which variables below a limit are in a list, and which others, when a variable is added.
use Rattle.std.proofs.Common.{◌≡◌, ◌≢◌, ◌∙◌, ℕ, ◌<◌, ◌≤◌, ◌||◌, inl, inr, Bool, true, false, List, [], ◌∷◌, ◌++◌}
use Rattle.std.proofs.Common.{length}
use Rattle.std.proofs.Common.{get_or, refl, ap, sym, length-set, get_or-set_same, get_or-set_other, nat_eq}
use Rattle.std.proofs.Common.{eq-eqb, arith}
use Rattle.std.specs.Prelude.{replicate, slice_set}
use Rattle.std.specs.List.{list_any}
use Rattle.std.proofs.lemmas.Bool.{cases_eq, ne_eqb}
use Rattle.std.proofs.lemmas.List.{get_or-replicate, length-replicate}
use Rattle.std.proofs.lemmas.List.Folds.{list_any-append}
use Rattle.ps_circuit.specs.Inner.NearAndFar.{AreKept}

or_false : (a : Bool) → (a || false) ≡ a
or_false true = refl
or_false false = refl

or_true : (a : Bool) → (a || true) ≡ true
or_true true = refl
or_true false = refl

abbrev has : ℕ → List ℕ → Bool
has v variables = list_any (λ other. nat_eq v other) variables

has-here : (v : ℕ) (variables : List ℕ) (w : ℕ) → v ≡ w → has v (variables ++ w ∷ []) ≡ true
has-here v variables w same =
    let one : has v (w ∷ []) ≡ true = grind (arith, eq-eqb v w same) in
    list_any-append (λ other. nat_eq v other) variables (w ∷ []) ∙ ap (λ (b : Bool). has v variables || b) one
    ∙ or_true (has v variables)

has-other : (v : ℕ) (variables : List ℕ) (w : ℕ) → v ≢ w → has v (variables ++ w ∷ []) ≡ has v variables
has-other v variables w differ =
    let none : has v (w ∷ []) ≡ false = grind (arith, ne_eqb v w differ) in
    list_any-append (λ other. nat_eq v other) variables (w ∷ []) ∙ ap (λ (b : Bool). has v variables || b) none
    ∙ or_false (has v variables)

pub kept_none : (limit : ℕ) → AreKept [] (replicate limit false) []
kept_none limit = record {
  below = λ v lt. get_or-replicate {A = Bool} limit v false false
      (omega (arith, lt, length-replicate {A = Bool} limit false));
  above = λ v le. refl;
}

module _ (variables : List ℕ) {near : List Bool} {far : List ℕ} (w : ℕ) (kept : AreKept variables near far) where
  pub kept_near : w < length near → AreKept (variables ++ w ∷ []) (slice_set near w true) far
  kept_near within = record {
    below = λ v lt. elim (cases_eq v w) [
      | inl same ↦ ap (λ (k : ℕ). get_or (slice_set near w true) k false) same
          ∙ get_or-set_same near w true false within ∙ sym (has-here v variables w same)
      | inr differ ↦ get_or-set_other near w v true false differ
          ∙ kept.below v (omega (arith, lt, length-set near w true)) ∙ sym (has-other v variables w differ)
    ];
    above = λ v le. (
        let behind : length near ≤ v = omega (arith, le, length-set near w true) in
        kept.above v behind ∙ sym (has-other v variables w (λ same. absurd (omega (arith, same, within, behind)))));
  }

  pub kept_far : length near ≤ w → AreKept (variables ++ w ∷ []) near (far ++ w ∷ [])
  kept_far behind = record {
    below = λ v lt. kept.below v lt
        ∙ sym (has-other v variables w (λ same. absurd (omega (arith, same, lt, behind))));
    above = λ v le. list_any-append (λ other. nat_eq v other) far (w ∷ [])
        ∙ ap (λ (b : Bool). b || has v (w ∷ [])) (kept.above v le)
        ∙ sym (list_any-append (λ other. nat_eq v other) variables (w ∷ []));
  }
