use Rattle.std.proofs.Common.{◌∷◌, [], arith}
use Rattle.std.proofs.lemmas.List.{nil_from_length}
use Rattle.ps_sentences.proofs.LayerLemmas.{equivalent_refl, is_still_layer}
use Rattle.ps_sentences.proofs.SplitLemmas.{are_around_at, are_split, around_over, one_further}
use Rattle.ps_sentences.proofs.GrownLemmas.{added_grows, all_back, grown_refl, grown_trans, still_in}
use Rattle.ps_sentences.specs.Inner.Layers.{IsLayer}
use Rattle.ps_sentences.proofs.splitting.both_within.Goals as goal

pub loop-layer-init : goal.loop-layer-init
loop-layer-init c = record {
  grows = grown_refl c.args.table.now;
  are = record {
    layers_there = c.requires.layers;
    first_there = c.requires.first;
    second_there = c.requires.second;
    is = equivalent_refl _;
  };
}

pub add-requires : goal.add-requires
add-requires c =
    let t = c.loop-layer.table in
    let are = are_around_at c.in-Some.ensures.items c.loop-layer.invariant.are in
    let is_layer = (all_back (IsLayer t) c.pop.new.self.items (c.in-Some.layer ∷ []) are.layers_there).0 in
    rw c.around.ensures (around_over t c.in-Some.layer c.loop-layer.first is_layer are.first_there)

pub add-requires-in-Some : goal.add-requires-in-Some
add-requires-in-Some c =
    let t = c.loop-layer.table in
    let are = are_around_at c.in-Some.ensures.items c.loop-layer.invariant.are in
    let is_layer = (all_back (IsLayer t) c.pop.new.self.items (c.in-Some.layer ∷ []) are.layers_there).0 in
    let grows = added_grows c.in_ok-first.ensures.ok in
    rw c.around-in-Some.ensures (around_over c.add.new.self c.in-Some.layer c.loop-layer.second
    (is_still_layer grows c.in-Some.layer is_layer) (still_in grows c.loop-layer.second are.second_there))

pub loop-layer-smaller : goal.loop-layer-smaller
loop-layer-smaller c = omega (arith, c.in-Some.ensures.cases)

pub loop-layer-preserved : goal.loop-layer-preserved
loop-layer-preserved c =
    let t = c.loop-layer.table in
    let are = are_around_at c.in-Some.ensures.items c.loop-layer.invariant.are in
    let one = rw c.around.ensures at c.in_ok-first.ensures.ok in
    let two = rw c.around-in-Some.ensures at c.in_ok-second.ensures.ok in
    record {
      grows = grown_trans c.loop-layer.invariant.grows (grown_trans (added_grows one) (added_grows two));
      are = one_further c.pop.new.self.items c.in-Some.layer are one c.in_ok-first.ensures.table two
          c.in_ok-second.ensures.table;
    }

pub returns : goal.returns
returns c =
    let none = nil_from_length c.loop-layer.layers.items
    (omega (arith, c.loop-layer.layers.ok.0, c.in_default.ensures.cases.0)) in
    record {
      is = are_split c.loop-layer.invariant.grows (are_around_at none c.loop-layer.invariant.are);
    }
