use Rattle.std.proofs.Common.{rules}
use Rattle.std.proofs.lemmas.Option.{slice_get-get_or, get_or_from_slice_get}
use Rattle.ps_machine.specs.Numbering.{StandsAt}
use Rattle.ps_machine.specs.declared.key.Key.TheVariants.{First}
use Rattle.ps_machine.proofs.Machines.MemorySteps.{below_skip, below_more, all_below, is_there, is_absent}
use Rattle.ps_machine.proofs.memories.remembered.Goals as goal
use Rattle.ps_machine.proofs.memories.remembered.Goals.{then-contains+in_ok-keep, else-contains}

-- no memory state is added, since the second player moves at this vertex
pub loop-vertex-preserved-in_default : goal.loop-vertex-preserved-in_default
loop-vertex-preserved-in_default c = search (rules, below_skip, get_or_from_slice_get)

pub loop-vertex-preserved : goal.loop-vertex-preserved
loop-vertex-preserved c =
    let first = c.args.moves_first in
    let keys = c.args.keys.now in
    let used = c.args.used.now.list.items in
    let n = c.loop-vertex.vertex in
    let stands : StandsAt keys n (First c.in-First.state c.in-First.priority) = search (rules, slice_get-get_or) in
    let told = c.contains.ensures in
    elim c.if-contains.branch [
      | then-contains+in_ok-keep w ↦ (let keeps = rw w.anchor.ensures at w.in_ok-keep.ensures in
          rw w.memories-is (search (rules, below_more, is_there)))
      | else-contains w ↦ rw w.memories-is (search (rules, below_skip, is_absent))
    ]

pub returns : goal.returns
returns c = search (rules, all_below)
