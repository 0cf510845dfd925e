-- Conjunctions of two formulas within a layer that they have in common.
use Rattle.std.proofs.Common.{◌≡◌, ◌∙◌, ◌<◌, ◌∷◌, [], ℕ, List, ap, arith, length, refl, true}
use Rattle.std.specs.Prelude.{slice_index_or}
use Rattle.ps_formula.specs.Formulas.{IsAdded, IsOver, IsTable, and_of, constant, formula_at}
use Rattle.ps_formula.specs.declared.node.Node.{Node}
use Rattle.ps_formula.specs.declared.node.Node.TheVariants.{And}
use Rattle.ps_sentences.proofs.GrownLemmas.{added_formula, added_grows, added_there, at_node, formula_kept}
use Rattle.ps_sentences.proofs.GrownLemmas.{grown_refl, grown_trans}
use Rattle.ps_sentences.proofs.LayerLemmas.{around_along, around_each, around_kept, around_node}
use Rattle.ps_sentences.specs.Conjunctions.{IsConjunctionIn}
use Rattle.ps_sentences.specs.Inner.Layers.{IsLayer, around, node_around}
use Rattle.ps_sentences.specs.Inner.Sharing.{IsSharedBy, IsSharedIn}
use Rattle.ps_sentences.specs.declared.layers.Layer.{Layer}
use Rattle.ps_sentences.specs.declared.layers.Layer.TheVariants.{Next, Globally, Given, Unless}
use Rattle.ps_sentences.specs.declared.layers.Shared.{Shared}

-- a layer whose node is over a table's first nodes has its operands there
pub layer_low : (count : ℕ) (layer : Layer) (k : ℕ) → IsOver count (node_around layer k) → k < count
layer_low count Next k low = low
layer_low count Globally k low = low
layer_low count (Given left) k low = low.1
layer_low count (Unless right) k low = low.0

pub layer_there : (nodes : List Node) (count : ℕ) (layer : Layer) (k : ℕ) → count < length nodes →
    IsOver count (node_around layer k) → IsLayer nodes layer
layer_there nodes count Next k there low = tt
layer_there nodes count Globally k there low = tt
layer_there nodes count (Given left) k there low = let less = low.0 in omega arith
layer_there nodes count (Unless right) k there low = let less = low.1 in omega arith

pub over_layer : (nodes : List Node) (layer : Layer) (k : ℕ) → IsLayer nodes layer → k < length nodes →
    IsOver (length nodes) (node_around layer k)
over_layer nodes Next k layer there = there
over_layer nodes Globally k layer there = there
over_layer nodes (Given left) k layer there = (layer, there)
over_layer nodes (Unless right) k layer there = (there, layer)

-- the layer that two nodes of a table have in common is that of their formulas
pub shared_in : {nodes read other : List Node} {first second : ℕ} (d node e another : Node) (s : Shared) →
    read ≡ nodes → other ≡ nodes → IsTable nodes → first < length nodes → second < length nodes →
    slice_index_or read first d ≡ node → slice_index_or other second e ≡ another → IsSharedBy node another s →
    IsSharedIn nodes first second s
shared_in {nodes} {read} {other} {first} {second} d node e another s same too table low high is also by =
    let one = at_node same table first low d (node_around s.layer s.first) (is ∙ by.first_is) in
    let two = at_node too table second high e (node_around s.layer s.second) (also ∙ by.second_is) in
    let below = layer_low first s.layer s.first one.1 in
    let beside = layer_low second s.layer s.second two.1 in
    record {
      layer = layer_there nodes first s.layer s.first low one.1;
      first_there = omega arith;
      second_there = omega arith;
      first_is = one.0 ∙ around_node nodes s.layer s.first;
      second_is = two.0 ∙ around_node nodes s.layer s.second;
    }

-- ## Conjunctions of two

pub joined_two : {old new : List Node} {first second index : ℕ} → first < length old → second < length old →
    IsAdded old (And first second) new index → IsTable new → IsConjunctionIn old (first ∷ second ∷ []) new index
joined_two {old} {new} {first} {second} low high added table =
    let more = added_grows added in record {
      grows = more;
      there = added_there added;
      same = λ w i. rw (added_formula added table, formula_kept more first low, formula_kept more second high)
          (λ h. (h.0, (h.1, tt)), λ h. (h.0, h.1.0));
    }

pub joined_true : (nodes : List Node) (first second : ℕ) → formula_at nodes first ≡ constant true →
    second < length nodes → IsConjunctionIn nodes (first ∷ second ∷ []) nodes second
joined_true nodes first second is there = record {
  grows = grown_refl nodes;
  there = there;
  same = λ w i. rw is (λ h. (refl, (h, tt)), λ h. h.1.0);
}

-- of two formulas within a layer, the layer with the conjunction of both operands
pub joined_within : {old mid new : List Node} {first second inner index : ℕ} (s : Shared) →
    IsSharedIn old first second s → IsConjunctionIn old (s.first ∷ s.second ∷ []) mid inner →
    IsAdded mid (node_around s.layer inner) new index → IsTable new →
    IsConjunctionIn old (first ∷ second ∷ []) new index
joined_within {old} {mid} {new} {first} {second} {inner} {index} s shared joined added table =
    let more = added_grows added in
    let grows = grown_trans joined.grows more in
    let f = formula_at old s.first in
    let g = formula_at old s.second in
    let h = formula_at mid inner in
    let is : formula_at new index ≡ around old s.layer h =
    added_formula added table ∙ around_node new s.layer inner
    ∙ ap (around new s.layer) (formula_kept more inner joined.there) ∙ around_kept grows s.layer h shared.layer in
    record {
      grows = grows;
      there = added_there added;
      same = λ w i.
          let along = around_along old s.layer h (and_of f g) w (λ k. (
            λ one. let both = (joined.same w k).0 one in (both.0, both.1.0),
            λ both. (joined.same w k).1 (both.0, (both.1, tt)),
          )) i in
          let each = around_each old s.layer f g w i in
          rw (is, shared.first_is, shared.second_is) (
            λ all. let both = each.0 (along.0 all) in (both.0, (both.1, tt)),
            λ all. along.1 (each.1 (all.0, all.1.0)),
          );
    }
