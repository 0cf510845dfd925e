-- The truth of a label whose propositions were renamed.
use Rattle.std.specs.Prelude.{◌≡◌, ℕ, Bool, true, false, cond, List, [], ◌∷◌, ◌++◌, map}
use Rattle.std.proofs.Common.{refl, ap, ◌∙◌}
use Rattle.ps_label.specs.Expression.{Expression, constant, proposition, alias, not_of, all_of, any_of, Operands, last}
use Rattle.ps_label.specs.Expression.{more}
use Rattle.ps_label.specs.Truth.{is_in, truth, all_true, any_true, truths_behind, alias_truths, label_truth}
use Rattle.ps_mixing.specs.MixedFiles.{renamed, all_renamed}

-- the proposition (to p) is true in y if and only if p is true in x
module _ (to : ℕ → ℕ) (x y : ℕ) (bits : (p : ℕ) → is_in (to p) y ≡ is_in p x) where
  mutual
    renamed_truth : (known : List Bool) (e : Expression) → truth known y (renamed to e) ≡ truth known x e
    renamed_truth known (constant b) = refl
    renamed_truth known (proposition p) = bits p
    renamed_truth known (alias k) = refl
    renamed_truth known (not_of e) = ap (λ b. cond b false true) (renamed_truth known e)
    renamed_truth known (all_of es) = renamed_all known es
    renamed_truth known (any_of es) = renamed_any known es

    renamed_all : (known : List Bool) (es : Operands) → all_true known y (all_renamed to es) ≡ all_true known x es
    renamed_all known last = refl
    renamed_all known (more e es) =
        ap (λ b. cond b (all_true known y (all_renamed to es)) false) (renamed_truth known e) ∙
        ap (λ b. cond (truth known x e) b false) (renamed_all known es)

    renamed_any : (known : List Bool) (es : Operands) → any_true known y (all_renamed to es) ≡ any_true known x es
    renamed_any known last = refl
    renamed_any known (more e es) =
        ap (λ b. cond b true (any_true known y (all_renamed to es))) (renamed_truth known e) ∙
        ap (λ b. cond (truth known x e) true b) (renamed_any known es)

  renamed_truths : (known : List Bool) (es : List Expression) →
      truths_behind known y (map (renamed to) es) ≡ truths_behind known x es
  renamed_truths known [] = refl
  renamed_truths known (e ∷ es) =
      ap (λ b. truths_behind (known ++ b ∷ []) y (map (renamed to) es)) (renamed_truth known e) ∙
      renamed_truths (known ++ truth known x e ∷ []) es

  pub renamed_label : (aliases : List Expression) (e : Expression) →
      label_truth (map (renamed to) aliases) y (renamed to e) ≡ label_truth aliases x e
  unfolding alias_truths label_truth
  renamed_label aliases e =
      ap (λ known. truth known y (renamed to e)) (renamed_truths [] aliases) ∙
      renamed_truth (alias_truths aliases x) e
