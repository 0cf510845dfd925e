use Rattle.std.proofs.Common.{arith, rules}
use Rattle.ps_machine.proofs.Machines.MemorySteps.{all_below, below_more, below_skip, is_absent, is_there}
use Rattle.ps_brief.specs.Listings.{listed_keys}
use Rattle.ps_brief.proofs.memories.memories_of.Goals as goal
use Rattle.ps_brief.proofs.memories.memories_of.Goals.{then-contains+in_ok-keep, else-contains}

pub loop-place-preserved : goal.loop-place-preserved
loop-place-preserved c =
    let told = c.contains.ensures in
    elim c.if-contains.branch [
      | then-contains+in_ok-keep w ↦ (let keeps = rw w.anchor.ensures at w.in_ok-keep.ensures in
          rw w.memories-is (search (rules, below_more, is_there)))
      | else-contains w ↦ rw w.memories-is (search (rules, below_skip, is_absent))
    ]

pub returns : goal.returns
returns c = all_below c.args.plan.now.moves_first (listed_keys c.args.plan.now.listing.now)
    c.args.reached.now.places.keys (omega (arith, c.loop-place-test.false, c.count-place-end.ensures))
    c.loop-place.invariant
