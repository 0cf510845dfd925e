use Rattle.std.specs.Prelude.{slice_index_or}
use Rattle.std.proofs.lemmas.Option.{slice_get-get_or}
use Rattle.ps_brief.proofs.DrawnMachines.MachineDrawn.{one_more_memory}
use Rattle.ps_brief.proofs.memories.Memories.values.Goals as goal

pub behind-requires-clause-good : goal.behind-requires-clause-good
behind-requires-clause-good c =
    let pair = slice_index_or c.args.pairs.now c.loop-leaf.leaf-index (0, 0) in
    (pair.1, c.requires.good c.loop-leaf.leaf-index (0, 0) c.loop-leaf-test.true)

pub loop-leaf-preserved : goal.loop-leaf-preserved
loop-leaf-preserved c =
    let pairs = c.args.pairs.now in
    let i = c.loop-leaf.leaf-index in
    let pair = slice_index_or pairs i (0, 0) in
    one_more_memory c.args.plan.now c.args.self.now.kept.items pairs i pair
    (slice_get-get_or pairs i (0, 0) c.loop-leaf-test.true) c.behind.result c.behind.ensures c.loop-leaf.values.items
    c.push.new.self.items c.in_ok-push.ensures.items c.loop-leaf.invariant
