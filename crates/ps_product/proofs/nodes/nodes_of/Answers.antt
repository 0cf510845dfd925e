use Rattle.std.proofs.Common.{arith, length, ◌<◌}
use Rattle.ps_diagram.proofs.NodeTables.KnownLemmas.{keeps_trans}
use Rattle.ps_product.specs.Truths.{IsTruth}
use Rattle.ps_product.proofs.CircuitFunctions.TruthNodes.{node_for_output, node_for_own, stand_more, truths_kept}
use Rattle.ps_product.proofs.nodes.nodes_of.Goals as goal
use Rattle.ps_product.proofs.nodes.nodes_of.Goals.{in-Some+in_ok-node-in-Some, in-None+in_ok-node-in-None}

pub node_of-requires : goal.node_of-requires
node_of-requires c =
    let at = c.in-Some.ensures.some in
    let lt = at.0 in
    let less : c.in-Some.k < length c.args.outputs.now = omega (arith, c.requires.one_each) in
    rw c.index-outputs-k.is
    (truths_kept c.args.outputs.now c.loop-p.invariant.keeps c.requires.truths c.in-Some.k _ less)

pub returns-in_err-node-in-None-clause-keeps : goal.returns-in_err-node-in-None-clause-keeps
returns-in_err-node-in-None-clause-keeps c = keeps_trans c.loop-p.invariant.keeps c.of_proposition.ensures.keeps

pub returns-in_err-push-clause-keeps : goal.returns-in_err-push-clause-keeps
returns-in_err-push-clause-keeps c = elim c.match-place_in.branch [
  | in-Some+in_ok-node-in-Some w ↦
      rw w.store-is (keeps_trans c.loop-p.invariant.keeps w.node_of.ensures.keeps)
  | in-None+in_ok-node-in-None w ↦
      rw w.store-is (keeps_trans c.loop-p.invariant.keeps w.of_proposition.ensures.keeps)
]

pub loop-p-preserved : goal.loop-p-preserved
loop-p-preserved c =
    let list = c.args.list.now in
    let outputs = c.args.outputs.now in
    let v = c.loop-p.invariant in
    let now = truths_kept outputs v.keeps c.requires.truths in
    let long = c.in_ok-push.ensures.len in
    elim c.match-place_in.branch [
      | in-Some+in_ok-node-in-Some w ↦
          let k = w.node_of.ensures.keeps in
          let at = w.in-Some.ensures.some in
          let lt = at.0 in
          let less : w.in-Some.k < length outputs = omega (arith, c.requires.one_each) in
          let held : IsTruth c.loop-p.store w.index-outputs-k.result =
          rw w.index-outputs-k.is (now w.in-Some.k w.index-outputs-k.result less) in
          let here = node_for_output list outputs c.requires.different w.in-Some.k w.index-outputs-k.result lt less at.1
          w.index-outputs-k.is k held w.in_ok-node-in-Some.ensures.held w.in_ok-node-in-Some.ensures.leaf in
          record {
            keeps = rw w.store-is (keeps_trans v.keeps k);
            one_each = omega (arith, long, v.one_each);
            nodes = rw w.store-is (stand_more list outputs c.requires.one_each now k c.loop-p.nodes.items
                w.in_ok-node-in-Some.node v.nodes v.one_each (rw w.node-is at c.in_ok-push.ensures.items)
                (omega (arith, long, v.one_each)) here);
          }
      | in-None+in_ok-node-in-None w ↦
          let k = w.of_proposition.ensures.keeps in
          let here = node_for_own list outputs c.loop-p.p w.in-None.ensures.none w.in_ok-node-in-None.ensures.held
          w.in_ok-node-in-None.ensures.leaf in
          record {
            keeps = rw w.store-is (keeps_trans v.keeps k);
            one_each = omega (arith, long, v.one_each);
            nodes = rw w.store-is (stand_more list outputs c.requires.one_each now k c.loop-p.nodes.items
                w.in_ok-node-in-None.node v.nodes v.one_each (rw w.node-is at c.in_ok-push.ensures.items)
                (omega (arith, long, v.one_each)) here);
          }
    ]
