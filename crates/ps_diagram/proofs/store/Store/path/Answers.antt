use Rattle.std.proofs.Common.{arith, rules, ◌≡◌, ◌≤◌, ◌<◌, ◌+◌, ◌-◌, cond, ℕ, Bool, true, false, refl, sym, ◌∙◌}
use Rattle.ps_label.specs.Truth.{is_in}
use Rattle.ps_diagram.specs.Table.{Keeps, IsNode, Table, tree_of}
use Rattle.ps_diagram.proofs.NodeTables.Cells.{keeps_refl}
use Rattle.ps_diagram.proofs.NodeTables.KnownLemmas.{keeps_trans}
use Rattle.ps_diagram.proofs.TreesFromData.Literals.{product_begins, product_next, product_stays, side_blind}
use Rattle.ps_diagram.proofs.store.Store.path.Goals as goal

-- the node of a side is one of two nodes
side_held : (t : Table) (b : Bool) (miss node side : ℕ) → side ≡ cond b miss node → IsNode t miss → IsNode t node →
    IsNode t side
side_held t true miss node side is one other = rw is one
side_held t false miss node side is one other = rw is other

side_tree : {old t : Table} → Keeps old t → (b : Bool) (miss node side : ℕ) → side ≡ cond b miss node →
    IsNode old miss → tree_of t side ≡ cond b (tree_of old miss) (tree_of t node)
side_tree k true miss node side is held = rw is (k.same miss held)
side_tree k false miss node side is held = rw is refl

pub loop-proposition-init : goal.loop-proposition-init
loop-proposition-init c =
    let last = c.propositions-proposition.ensures.value in
    record {
      from = rw last c.requires.within;
      keeps = keeps_refl _;
      held = c.requires.hit;
      leaf = rw last (product_begins c.requires.hit_constant c.requires.miss_constant);
    }

pub test-requires-clause-low_held : goal.test-requires-clause-low_held
test-requires-clause-low_held c =
    let v = c.loop-proposition.invariant in
    side_held c.loop-proposition.self (is_in (c.loop-proposition.proposition - 1) c.args.product.positive) c.args.miss
    c.loop-proposition.node c.side-low.result c.side-low.ensures (v.keeps.held _ c.requires.miss) v.held

pub test-requires-clause-high_held : goal.test-requires-clause-high_held
test-requires-clause-high_held c =
    let v = c.loop-proposition.invariant in
    side_held c.loop-proposition.self (is_in (c.loop-proposition.proposition - 1) c.args.product.negative) c.args.miss
    c.loop-proposition.node c.side-high.result c.side-high.ensures (v.keeps.held _ c.requires.miss) v.held

pub test-requires-clause-low_later : goal.test-requires-clause-low_later
test-requires-clause-low_later c =
    let next : c.loop-proposition.proposition - 1 + 1 ≡ c.loop-proposition.proposition = omega arith in
    rw next (side_blind c.requires.hit_constant c.requires.miss_constant
    (is_in (c.loop-proposition.proposition - 1) c.args.product.positive) (tree_of c.loop-proposition.self
    c.loop-proposition.node) (tree_of c.loop-proposition.self c.side-low.result)
    (side_tree c.loop-proposition.invariant.keeps _
    c.args.miss c.loop-proposition.node c.side-low.result c.side-low.ensures c.requires.miss)
    c.loop-proposition.invariant.leaf)

pub test-requires-clause-high_later : goal.test-requires-clause-high_later
test-requires-clause-high_later c =
    let next : c.loop-proposition.proposition - 1 + 1 ≡ c.loop-proposition.proposition = omega arith in
    rw next (side_blind c.requires.hit_constant c.requires.miss_constant
    (is_in (c.loop-proposition.proposition - 1) c.args.product.negative) (tree_of c.loop-proposition.self
    c.loop-proposition.node) (tree_of c.loop-proposition.self c.side-high.result)
    (side_tree c.loop-proposition.invariant.keeps _
    c.args.miss c.loop-proposition.node c.side-high.result c.side-high.ensures c.requires.miss)
    c.loop-proposition.invariant.leaf)

pub loop-proposition-preserved : goal.loop-proposition-preserved
loop-proposition-preserved c =
    let v = c.loop-proposition.invariant in
    let some : 0 < c.loop-proposition.proposition = omega arith in
    let within : c.loop-proposition.proposition ≤ c.args.self.now.propositions = omega (
      arith,
      c.propositions-proposition.ensures.value,
    ) in
    record {
      from = omega arith;
      keeps = keeps_trans v.keeps c.test.ensures.keeps;
      held = c.in_ok-node.ensures.held;
      leaf = product_next c.requires.hit_constant c.requires.miss_constant _ _ _ _ some within v.leaf
          (side_tree c.loop-proposition.invariant.keeps _
          c.args.miss c.loop-proposition.node c.side-low.result c.side-low.ensures c.requires.miss)
          (side_tree c.loop-proposition.invariant.keeps _
          c.args.miss c.loop-proposition.node c.side-high.result c.side-high.ensures c.requires.miss)
          c.in_ok-node.ensures.leaf;
    }

pub loop-proposition-preserved-then-not-tests : goal.loop-proposition-preserved-then-not-tests
loop-proposition-preserved-then-not-tests c =
    let v = c.loop-proposition.invariant in
    let some : 0 < c.loop-proposition.proposition = omega arith in
    let within : c.loop-proposition.proposition ≤ c.args.self.now.propositions = omega (
      arith,
      c.propositions-proposition.ensures.value,
    ) in
    record {
      from = omega arith;
      keeps = v.keeps;
      held = v.held;
      leaf = product_stays c.requires.hit_constant c.requires.miss_constant _ some within v.leaf
          (sym c.tests.ensures ∙ c.if-not-tests.true);
    }

pub returns-in_err-node : goal.returns-in_err-node
returns-in_err-node c = record {
  keeps = keeps_trans c.loop-proposition.invariant.keeps c.test.ensures.keeps;
  held = search rules;
  leaf = search rules;
}

pub returns : goal.returns
returns c =
    let v = c.loop-proposition.invariant in
    let last : c.loop-proposition.proposition ≡ c.args.level = (let from = v.from in omega (arith, from)) in
    record { keeps = v.keeps; held = v.held; leaf = rw (sym last) v.leaf }
