use Rattle.std.specs.List.{slice_get}
use Rattle.std.proofs.lemmas.Option.{slice_get-get_or}
use Rattle.ps_diagram.specs.Inner.Rows.{HasLeaf}
use Rattle.ps_diagram.proofs.TreesFromData.Halving.{leaf_nodes_more}
use Rattle.ps_diagram.proofs.NodeTables.KnownLemmas.{keeps_trans}
use Rattle.ps_diagram.proofs.store.Store.leaf_nodes.Goals as goal

pub returns-in_err-constant-clause-keeps : goal.returns-in_err-constant-clause-keeps
returns-in_err-constant-clause-keeps c = keeps_trans c.loop-leaf.invariant.keeps c.constant.ensures.keeps

pub returns-in_err-push-clause-keeps : goal.returns-in_err-push-clause-keeps
returns-in_err-push-clause-keeps c = keeps_trans c.loop-leaf.invariant.keeps c.constant.ensures.keeps

pub loop-leaf-preserved : goal.loop-leaf-preserved
loop-leaf-preserved c =
    let l = c.loop-leaf in
    let v = l.invariant in
    let k = c.constant.ensures.keeps in
    let leaves = c.args.leaves.now in
    let node = c.in_ok-constant.field-0 in
    let stands = slice_get-get_or leaves l.leaf-index 0 c.loop-leaf-test.true in
    let has : HasLeaf c.constant.new.self node (slice_get leaves l.leaf-index) =
    rw stands (c.in_ok-constant.ensures.held, c.in_ok-constant.ensures.leaf) in
    record {
      keeps = keeps_trans v.keeps k;
      nodes_of = leaf_nodes_more node k v.nodes_of c.in_ok-push.ensures.items has;
    }
