-- What formulas are conjunctions of, by their outermost operators.
use Rattle.std.proofs.Common.{◌≡◌, ◌∙◌, ◌<◌, ℕ, arith, inl, inr, false, length, List, refl, subst, sym, true}
use Rattle.std.specs.Prelude.{IfOk, Result}
use Rattle.std.specs.declared.alloc.AllocError.{AllocError}
use Rattle.ps_formula.specs.Formulas.{Formula, and_of, constant, finally, globally, iff, implies, next, not_of, or_of}
use Rattle.ps_formula.specs.Formulas.{IsAdded, IsTable, formula_at, formula_of, formulas_of}
use Rattle.ps_formula.specs.declared.node.Node.{Node}
use Rattle.ps_sentences.proofs.LayerLemmas.{equivalent_is}
use Rattle.ps_sentences.proofs.GrownLemmas.{added_formula, added_grows, added_there, formula_kept, grown_refl}
use Rattle.ps_sentences.proofs.GrownLemmas.{grown_trans, still_in}
use Rattle.ps_sentences.specs.Inner.Layers.{IsLayer, around}
use Rattle.ps_sentences.specs.Inner.Shapes.{IsShapeOf}
use Rattle.ps_sentences.specs.Sentences.{IsEquivalent}
use Rattle.ps_sentences.specs.declared.layers.Layer.{Layer}
use Rattle.ps_sentences.specs.declared.shapes.Shape.{Shape}
use Rattle.ps_sentences.specs.declared.shapes.Shape.TheVariants.{True, Both, Within}

pub iff_is : (f g : Formula) → IsEquivalent (iff f g) (and_of (implies f g) (implies g f))
iff_is f g = record { each = λ w i decided. (λ h. (h.0, h.1), λ h. (h.0, h.1)) }

pub neither_is : (f g : Formula) → IsEquivalent (not_of (or_of f g)) (and_of (not_of f) (not_of g))
neither_is f g = record {
  each = λ w i decided. (
    λ h. (λ s. h (inl s), λ s. h (inr s)),
    λ h s. elim s [ inl here ↦ h.0 here | inr here ↦ h.1 here ],
  );
}

pub never_is : (f : Formula) → IsEquivalent (not_of (finally f)) (globally (not_of f))
never_is f = record {
  each = λ w i decided. (
    λ h. record {
      each = λ j low. inl (λ s. h (record { end = j; later = low; there = s; before = λ k start high. tt }));
    },
    λ h s. elim (h.each s.end s.later) [ inl never ↦ never s.there | inr ended ↦ ended.3 ],
  );
}

pub not_false_is : IsEquivalent (not_of (constant false)) (constant true)
not_false_is = record { each = λ w i decided. (λ h. refl, λ h s. cc) }

pub not_next_is : (f : Formula) → IsEquivalent (not_of (next f)) (next (not_of f))
not_next_is f = record { each = λ w i decided. (λ h. h, λ h. h) }

-- ## Shapes

-- a formula of the table is its own shape's formula
pub is_true : {nodes : List Node} (k : ℕ) → formula_at nodes k ≡ constant true →
    IsShapeOf (formula_at nodes k) nodes nodes True
is_true {nodes} k is = record { grows = grown_refl nodes; has = equivalent_is is }

pub is_both : {nodes : List Node} {k g h : ℕ} → k < length nodes → g < k → h < k →
    formula_at nodes k ≡ and_of (formula_at nodes g) (formula_at nodes h) →
    IsShapeOf (formula_at nodes k) nodes nodes (Both g h)
is_both {nodes} there first second is = record {
  grows = grown_refl nodes;
  has = (omega arith, omega arith, equivalent_is is);
}

pub is_within : {nodes : List Node} {k g : ℕ} (layer : Layer) → k < length nodes → g < k → IsLayer nodes layer →
    formula_at nodes k ≡ around nodes layer (formula_at nodes g) →
    IsShapeOf (formula_at nodes k) nodes nodes (Within layer g)
is_within {nodes} layer there low is_layer is = record {
  grows = grown_refl nodes;
  has = (is_layer, omega arith, equivalent_is is);
}

-- the shape of an equal formula
pub shape_by : {f g : Formula} (old new : List Node) (result : Result Shape AllocError) → g ≡ f →
    IfOk result (IsShapeOf f old new) → IfOk result (IsShapeOf g old new)
shape_by {f} {g} old new result is ok =
    subst (λ (x : Formula). IfOk result (IsShapeOf x old new)) (sym is) ok

-- two nodes are added
pub both_added : {old mid new : List Node} {first second : Node} {i j : ℕ} → IsAdded old first mid i →
    IsTable mid → IsAdded mid second new j → IsTable new → (f g h : Formula) →
    formula_of (formulas_of mid) first ≡ g → formula_of (formulas_of new) second ≡ h →
    IsEquivalent f (and_of g h) → IsShapeOf f old new (Both i j)
both_added {old} {mid} {new} {first} {second} {i} {j} one table_one two table_two f g h first_is second_is is =
    let more = added_grows two in
    let left : formula_at new i ≡ g =
    formula_kept more i (added_there one) ∙ added_formula one table_one ∙ first_is in
    let right : formula_at new j ≡ h = added_formula two table_two ∙ second_is in
    record {
      grows = grown_trans (added_grows one) more;
      has = (
        still_in more i (added_there one),
        added_there two,
        rw (left, right) is,
      );
    }

-- one node is added, within a layer
pub within_added : {old new : List Node} {node : Node} {i : ℕ} → IsAdded old node new i → IsTable new →
    (layer : Layer) → IsLayer new layer → (f g : Formula) → formula_of (formulas_of new) node ≡ g →
    IsEquivalent f (around new layer g) → IsShapeOf f old new (Within layer i)
within_added {old} {new} {node} {i} added table layer is_layer f g node_is is =
    let here : formula_at new i ≡ g = added_formula added table ∙ node_is in
    record {
      grows = added_grows added;
      has = (is_layer, added_there added, rw here is);
    }
