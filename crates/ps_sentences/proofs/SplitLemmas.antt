-- Layers are taken off a formula until it is a conjunction, and put round both of its operands again.
-- - `IsAround f nodes layers k`: f is the formula with the index k, within the layers
-- - `AreAround f nodes layers first second`: f is the conjunction of two formulas, within the layers
use Rattle.std.proofs.Common.{◌≡◌, ◌∙◌, ◌<◌, ◌++◌, ◌∷◌, [], ℕ, List, ap, append-nil, arith, length, subst, sym, true}
use Rattle.ps_formula.specs.Formulas.{Formula, IsAdded, IsOver, IsTable, and_of, constant, formula_at}
use Rattle.ps_formula.specs.declared.node.Node.{Node}
use Rattle.ps_sentences.proofs.LayerLemmas.{are_still_layers, around_both, around_kept, around_node, equivalent_is}
use Rattle.ps_sentences.proofs.LayerLemmas.{equivalent_trans, within-append, within_kept, within_like, within_true}
use Rattle.ps_sentences.proofs.GrownLemmas.{added_formula, added_grows, added_there, all_append, all_back, all_front}
use Rattle.ps_sentences.proofs.GrownLemmas.{formula_kept, grown_trans, still_in}
use Rattle.ps_sentences.specs.Inner.Conjuncts.{IsSplitOf, SplitsWithin, TakesSteps}
use Rattle.ps_sentences.specs.Inner.Layers.{AreLayers, IsLayer, around, node_around, within}
use Rattle.ps_sentences.specs.Inner.Shapes.{IsShapeOf}
use Rattle.ps_sentences.specs.Sentences.{IsEquivalent}
use Rattle.ps_sentences.specs.Tables.{IsGrownTable}
use Rattle.ps_sentences.specs.declared.layers.Layer.{Layer}
use Rattle.ps_sentences.specs.declared.layers.Layer.TheVariants.{Next, Globally, Given, Unless}
use Rattle.ps_sentences.specs.declared.shapes.Shape.{Shape}
use Rattle.ps_sentences.specs.declared.shapes.Shape.TheVariants as shapes
use Rattle.ps_sentences.specs.declared.splitting.Split.{Split}
use Rattle.ps_sentences.specs.declared.splitting.Split.TheVariants.{True, Both, Whole}

pub record IsAround (f : Formula) (nodes : List Node) (layers : List Layer) (k : ℕ) : Type 0 where
  pub layers_there : AreLayers nodes layers
  pub there : k < length nodes
  pub is : IsEquivalent f (within nodes layers (formula_at nodes k))

pub record AreAround (f : Formula) (nodes : List Node) (layers : List Layer) (first second : ℕ) : Type 0 where
  pub layers_there : AreLayers nodes layers
  pub first_there : first < length nodes
  pub second_there : second < length nodes
  pub is : IsEquivalent f (within nodes layers (and_of (formula_at nodes first) (formula_at nodes second)))

-- ## Off

module _ {f : Formula} {old new : List Node} {layers : List Layer} {k : ℕ} (is_around : IsAround f old layers k) where
  -- the formula inside, in a table that has grown, is equivalent to another one
  inside : IsGrownTable old new → (g : Formula) → IsEquivalent (formula_at old k) g →
      IsEquivalent f (within new layers g)
  inside grows g is =
      equivalent_trans is_around.is (equivalent_trans (within_like old layers (formula_at old k) g is)
      (equivalent_is (sym (within_kept grows layers g is_around.layers_there))))

  pub true_inside : IsShapeOf (formula_at old k) old new shapes.True → IsSplitOf f old new True
  true_inside shape = record {
    grows = shape.grows;
    has = equivalent_trans (inside shape.grows (constant true) shape.has) (within_true new layers);
  }

  pub both_inside : (g h : ℕ) → IsShapeOf (formula_at old k) old new (shapes.Both g h) → AreAround f new layers g h
  both_inside g h shape = record {
    layers_there = are_still_layers shape.grows layers is_around.layers_there;
    first_there = shape.has.0;
    second_there = shape.has.1;
    is = inside shape.grows (and_of (formula_at new g) (formula_at new h)) shape.has.2;
  }

  pub further_inside : (layer : Layer) (g : ℕ) → IsShapeOf (formula_at old k) old new (shapes.Within layer g) →
      IsAround f new (layers ++ layer ∷ []) g
  further_inside layer g shape = record {
    layers_there = all_append (IsLayer new) layers (layer ∷ [])
        (are_still_layers shape.grows layers is_around.layers_there) (shape.has.0, tt);
    there = shape.has.1;
    is = equivalent_trans (inside shape.grows (around new layer (formula_at new g)) shape.has.2)
        (equivalent_is (sym (within-append new layers layer (formula_at new g))));
  }

-- ## On

-- a node is added around an operand
added_around : {old mid new : List Node} (layer : Layer) (k i : ℕ) → IsGrownTable old mid → IsLayer old layer →
    k < length old → IsAdded mid (node_around layer k) new i → IsTable new →
    formula_at new i ≡ around old layer (formula_at old k)
added_around {old} {mid} {new} layer k i before is_layer there added table =
    let grows = grown_trans before (added_grows added) in
    added_formula added table ∙ around_node new layer k
    ∙ around_kept grows layer (formula_at new k) is_layer
    ∙ ap (around old layer) (formula_kept grows k there)

module _ {f : Formula} {old mid new : List Node} (layers : List Layer) (layer : Layer) {first second i j : ℕ}
    (are : AreAround f old (layers ++ layer ∷ []) first second) (one : IsAdded old (node_around layer first) mid i)
    (table_one : IsTable mid) (two : IsAdded mid (node_around layer second) new j) (table_two : IsTable new) where
  pub one_further : AreAround f new layers i j
  one_further =
      let more = added_grows two in
      let grows = grown_trans (added_grows one) more in
      let outer = all_front (IsLayer old) layers (layer ∷ []) are.layers_there in
      let is_layer = (all_back (IsLayer old) layers (layer ∷ []) are.layers_there).0 in
      let left : formula_at new i ≡ around old layer (formula_at old first) =
      formula_kept more i (added_there one)
      ∙ added_around layer first i (record { more = []; is = sym (append-nil old) }) is_layer are.first_there one
      table_one
      in
      let right : formula_at new j ≡ around old layer (formula_at old second) =
      added_around layer second j (added_grows one) is_layer are.second_there two table_two in
      let g = and_of (formula_at old first) (formula_at old second) in
      let h = and_of (around old layer (formula_at old first)) (around old layer (formula_at old second)) in
      let apart : IsEquivalent f (within old layers h) =
      equivalent_trans are.is (equivalent_trans (equivalent_is (within-append old layers layer g))
      (within_like old layers (around old layer g) h
      (around_both old layer (formula_at old first) (formula_at old second)))) in
      record {
        layers_there = are_still_layers grows layers outer;
        first_there = still_in more i (added_there one);
        second_there = added_there two;
        is = rw (left, right) (equivalent_trans apart (equivalent_is (sym (within_kept grows layers h outer))));
      }

pub are_split : {f : Formula} {old new : List Node} {first second : ℕ} → IsGrownTable old new →
    AreAround f new [] first second → IsSplitOf f old new (Both first second)
are_split grows are = record { grows = grows; has = (are.first_there, are.second_there, are.is) }

-- the halves of a formula inside are those of the whole
pub split_through : {f : Formula} {old mid new : List Node} {layers : List Layer} {first second : ℕ} →
    AreAround f mid layers first second → IsGrownTable old mid → (split : Split) →
    SplitsWithin layers first second mid new split → IsSplitOf f old new split
split_through are grows True within = record {
  grows = grown_trans grows within.is.grows;
  has = equivalent_trans are.is within.is.has;
}
split_through are grows (Both g h) within = record {
  grows = grown_trans grows within.is.grows;
  has = (within.is.has.0, within.is.has.1, equivalent_trans are.is within.is.has.2);
}
split_through are grows Whole within = record { grows = grown_trans grows within.is.grows; has = tt }

-- a step was taken
pub takes_any : {old new : ℕ} → new < old → (split : Split) → TakesSteps old new split
takes_any less True = omega arith
takes_any less (Both g h) = less
takes_any less Whole = omega arith

pub around_over : (nodes : List Node) (layer : Layer) (k : ℕ) → IsLayer nodes layer → k < length nodes →
    IsOver (length nodes) (node_around layer k)
around_over nodes Next k is_layer there = there
around_over nodes Globally k is_layer there = there
around_over nodes (Given left) k is_layer there = (is_layer, there)
around_over nodes (Unless right) k is_layer there = (there, is_layer)

-- ## Equal layers and shapes

pub around_at : {f : Formula} {nodes : List Node} {layers others : List Layer} {k : ℕ} → layers ≡ others →
    IsAround f nodes layers k → IsAround f nodes others k
around_at {f} {nodes} {layers} {others} {k} same is = subst (λ (ls : List Layer). IsAround f nodes ls k) same is

pub are_around_at : {f : Formula} {nodes : List Node} {layers others : List Layer} {first second : ℕ} →
    layers ≡ others → AreAround f nodes layers first second → AreAround f nodes others first second
are_around_at {f} {nodes} {layers} {others} {first} {second} same are =
    subst (λ (ls : List Layer). AreAround f nodes ls first second) same are

pub shape_at : {f : Formula} {old new : List Node} {shape other : Shape} → shape ≡ other → IsShapeOf f old new shape →
    IsShapeOf f old new other
shape_at {f} {old} {new} same is = subst (λ (s : Shape). IsShapeOf f old new s) same is
