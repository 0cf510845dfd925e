use Rattle.std.proofs.Common.{ℕ, ◌≡◌, ◌<◌, ◌≤◌, Bool, true, false, None, arith}
use Rattle.ps_diagram.specs.Tree.{leaf_at}
use Rattle.ps_diagram.proofs.TreesFromData.Alone.{alone_next, bit_true, bit_false, alone_end}
use Rattle.ps_diagram.proofs.NodeTables.KnownLemmas.{keeps_trans, kept}
use Rattle.ps_diagram.proofs.store.Store.of_letter.Goals as goal

pub loop-proposition-preserved-in_ok-node-2 : goal.loop-proposition-preserved-in_ok-node-2
loop-proposition-preserved-in_ok-node-2 c =
    let l = c.loop-proposition in
    let v = l.invariant in
    let k = c.test.ensures.keeps in
    let some : 0 < l.proposition = omega arith in
    let within : l.proposition ≤ l.self.propositions = omega (
      arith,
      v.keeps.propositions,
      c.propositions-proposition.ensures.value,
      c.in_ok-none.ensures.keeps.propositions,
      c.in_ok-node.ensures.keeps.propositions,
    ) in
    record {
      keeps = keeps_trans v.keeps k;
      none_held = k.held _ v.none_held;
      held = c.in_ok-node-2.ensures.held;
      nothing = kept (λ u. (f : ℕ → Bool) → leaf_at u f ≡ None) k v.none_held v.nothing;
      alone = alone_next true _ _ _ k.propositions some within v.nothing v.alone
          (bit_true _ _ c.if-letter-proposition-eq1.true) c.in_ok-node-2.ensures.leaf;
    }

pub loop-proposition-preserved : goal.loop-proposition-preserved
loop-proposition-preserved c =
    let l = c.loop-proposition in
    let v = l.invariant in
    let k = c.test-else-letter-proposition-eq1.ensures.keeps in
    let some : 0 < l.proposition = omega arith in
    let within : l.proposition ≤ l.self.propositions = omega (
      arith,
      v.keeps.propositions,
      c.propositions-proposition.ensures.value,
      c.in_ok-none.ensures.keeps.propositions,
      c.in_ok-node.ensures.keeps.propositions,
    ) in
    record {
      keeps = keeps_trans v.keeps k;
      none_held = k.held _ v.none_held;
      held = c.in_ok-node-3.ensures.held;
      nothing = kept (λ u. (f : ℕ → Bool) → leaf_at u f ≡ None) k v.none_held v.nothing;
      alone = alone_next false _ _ _ k.propositions some within v.nothing v.alone
          (bit_false _ _ c.if-letter-proposition-eq1.false) c.in_ok-node-3.ensures.leaf;
    }

pub returns : goal.returns
returns c =
    let l = c.loop-proposition in
    let v = l.invariant in
    let done : l.proposition ≡ 0 = omega arith in
    record { keeps = v.keeps; held = v.held; leaf = alone_end c.requires.within v.keeps.propositions done v.alone }
