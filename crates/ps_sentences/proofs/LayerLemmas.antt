-- Layers distribute over conjunctions, and keep equivalence.
use Rattle.std.proofs.Common.{◌≡◌, ◌∙◌, ℕ, ◌⊎◌, ◌+◌, inl, inr, List, [], ◌∷◌, ◌++◌, refl, ap, true}
use Rattle.std.specs.Prelude.{◌↔◌}
use Rattle.ps_formula.proofs.Dualities.{keeps_like}
use Rattle.ps_formula.specs.Formulas.{Formula, and_of, constant, formula_at, formula_of, formulas_of, implies}
use Rattle.ps_formula.specs.Formulas.{weak_until}
use Rattle.ps_formula.specs.Satisfaction.{Keeps, Satisfies}
use Rattle.ps_formula.specs.declared.node.Node.{Node}
use Rattle.ps_sentences.specs.Inner.Layers.{AreLayers, IsLayer, around, node_around, within}
use Rattle.ps_sentences.specs.Sentences.{IsEquivalent}
use Rattle.ps_sentences.specs.Tables.{IsGrownTable}
use Rattle.ps_sentences.specs.declared.layers.Layer.{Layer}
use Rattle.ps_sentences.specs.declared.layers.Layer.TheVariants.{Next, Globally, Given, Unless}
use Rattle.ps_sentences.proofs.GrownLemmas.{all_like, formula_kept, still_in}

-- ## Equivalence

pub equivalent_refl : (f : Formula) → IsEquivalent f f
equivalent_refl f = record { each = λ w i decided. (λ h. h, λ h. h) }

pub equivalent_trans : {f g h : Formula} → IsEquivalent f g → IsEquivalent g h → IsEquivalent f h
equivalent_trans first second = record {
  each = λ w i decided. (
    λ s. (second.each w i decided).0 ((first.each w i decided).0 s),
    λ s. (first.each w i decided).1 ((second.each w i decided).1 s),
  );
}

pub equivalent_is : {f g : Formula} → f ≡ g → IsEquivalent f g
equivalent_is {f} is = rw (← is) (equivalent_refl f)

-- ## One layer

-- an operator that does not read the table further, along one word
pub around_along : (nodes : List Node) (layer : Layer) (f g : Formula) (w : ℕ → ℕ) →
    ((k : ℕ) → (Satisfies f w k) ↔ (Satisfies g w k)) → (i : ℕ) →
    (Satisfies (around nodes layer f) w i) ↔ (Satisfies (around nodes layer g) w i)
around_along nodes Next f g w e i = e (i + 1)
around_along nodes Globally f g w e i =
    (keeps_like (λ k never. never) (λ k s. (e k).0 s) i, keeps_like (λ k never. never) (λ k s. (e k).1 s) i)
around_along nodes (Given left) f g w e i = (λ h s. (e i).0 (h s), λ h s. (e i).1 (h s))
around_along nodes (Unless right) f g w e i = (
  keeps_like (λ k s. s) (λ k s. elim s [ inl here ↦ inl ((e k).0 here) | inr there ↦ inr there ]) i,
  keeps_like (λ k s. s) (λ k s. elim s [ inl here ↦ inl ((e k).1 here) | inr there ↦ inr there ]) i,
)

pub around_like : (nodes : List Node) (layer : Layer) (f g : Formula) → IsEquivalent f g →
    IsEquivalent (around nodes layer f) (around nodes layer g)
around_like nodes layer f g e = record {
  each = λ w i decided. around_along nodes layer f g w (λ k. e.each w k decided) i;
}

-- what is kept twice
keeps_both : {A B C : ℕ → Type 0} (i : ℕ) → Keeps A B i → Keeps A C i → Keeps A (λ k. B k × C k) i
keeps_both i first second = record {
  each = λ j low. elim (first.each j low) [
    | inr ended ↦ inr ended
    | inl b ↦ elim (second.each j low) [
      | inr ended ↦ inr ended
      | inl c ↦ inl (b, c)
    ]
  ];
}

-- a conjunction or the right side
either_both : {P Q R : Type 0} → (P ⊎ R) × (Q ⊎ R) → (P × Q) ⊎ R
either_both (inl p, inl q) = inl (p, q)
either_both (inl p, inr r) = inr r
either_both (inr r, other) = inr r

pub around_each : (nodes : List Node) (layer : Layer) (f g : Formula) (w : ℕ → ℕ) (i : ℕ) →
    (Satisfies (around nodes layer (and_of f g)) w i) ↔
    (Satisfies (around nodes layer f) w i × Satisfies (around nodes layer g) w i)
around_each nodes Next f g w i = (λ h. h, λ h. h)
around_each nodes Globally f g w i = (
  λ h. (keeps_like (λ k never. never) (λ k s. s.0) i h, keeps_like (λ k never. never) (λ k s. s.1) i h),
  λ h. keeps_both i h.0 h.1,
)
around_each nodes (Given left) f g w i = (λ h. (λ s. (h s).0, λ s. (h s).1), λ h s. (h.0 s, h.1 s))
around_each nodes (Unless right) f g w i = (
  λ h. (
    keeps_like (λ k s. s) (λ k s. elim s [ inl both ↦ inl both.0 | inr there ↦ inr there ]) i h,
    keeps_like (λ k s. s) (λ k s. elim s [ inl both ↦ inl both.1 | inr there ↦ inr there ]) i h,
  ),
  λ h. keeps_like (λ k s. s) (λ k s. either_both s) i (keeps_both i h.0 h.1),
)

pub around_both : (nodes : List Node) (layer : Layer) (f g : Formula) →
    IsEquivalent (around nodes layer (and_of f g)) (and_of (around nodes layer f) (around nodes layer g))
around_both nodes layer f g = record { each = λ w i decided. around_each nodes layer f g w i }

pub around_true : (nodes : List Node) (layer : Layer) →
    IsEquivalent (around nodes layer (constant true)) (constant true)
around_true nodes Next = record { each = λ w i decided. (λ h. h, λ h. h) }
around_true nodes Globally = record { each = λ w i decided. (λ h. refl, λ h. record { each = λ j low. inl refl }) }
around_true nodes (Given left) = record { each = λ w i decided. (λ h. refl, λ h s. refl) }
around_true nodes (Unless right) = record {
  each = λ w i decided. (λ h. refl, λ h. record { each = λ j low. inl (inl refl) });
}

pub around_kept : {old new : List Node} → IsGrownTable old new → (layer : Layer) (f : Formula) → IsLayer old layer →
    around new layer f ≡ around old layer f
around_kept grows Next f there = refl
around_kept grows Globally f there = refl
around_kept grows (Given left) f there = ap (λ (x : Formula). implies x f) (formula_kept grows left there)
around_kept grows (Unless right) f there = ap (λ (x : Formula). weak_until f x) (formula_kept grows right there)

pub around_node : (nodes : List Node) (layer : Layer) (k : ℕ) →
    formula_of (formulas_of nodes) (node_around layer k) ≡ around nodes layer (formula_at nodes k)
around_node nodes Next k = refl
around_node nodes Globally k = refl
around_node nodes (Given left) k = refl
around_node nodes (Unless right) k = refl

-- ## Several layers

pub within_like : (nodes : List Node) (layers : List Layer) (f g : Formula) → IsEquivalent f g →
    IsEquivalent (within nodes layers f) (within nodes layers g)
within_like nodes [] f g e = e
within_like nodes (layer ∷ layers) f g e =
    around_like nodes layer (within nodes layers f) (within nodes layers g) (within_like nodes layers f g e)

pub within_true : (nodes : List Node) (layers : List Layer) →
    IsEquivalent (within nodes layers (constant true)) (constant true)
within_true nodes [] = equivalent_refl (constant true)
within_true nodes (layer ∷ layers) = equivalent_trans
    (around_like nodes layer (within nodes layers (constant true)) (constant true) (within_true nodes layers))
    (around_true nodes layer)

pub within-append : (nodes : List Node) (layers : List Layer) (layer : Layer) (f : Formula) →
    within nodes (layers ++ layer ∷ []) f ≡ within nodes layers (around nodes layer f)
within-append nodes [] layer f = refl
within-append nodes (outer ∷ layers) layer f = ap (around nodes outer) (within-append nodes layers layer f)

pub within_kept : {old new : List Node} → IsGrownTable old new → (layers : List Layer) (f : Formula) →
    AreLayers old layers → within new layers f ≡ within old layers f
within_kept grows [] f there = refl
within_kept {old} {new} grows (layer ∷ layers) f there =
    ap (around new layer) (within_kept grows layers f there.1)
    ∙ around_kept grows layer (within old layers f) there.0

pub is_still_layer : {old new : List Node} → IsGrownTable old new → (layer : Layer) → IsLayer old layer →
    IsLayer new layer
is_still_layer grows Next there = tt
is_still_layer grows Globally there = tt
is_still_layer grows (Given left) there = still_in grows left there
is_still_layer grows (Unless right) there = still_in grows right there

pub are_still_layers : {old new : List Node} → IsGrownTable old new → (layers : List Layer) → AreLayers old layers →
    AreLayers new layers
are_still_layers grows layers there = all_like (is_still_layer grows) layers there
