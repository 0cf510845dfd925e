use Rattle.std.proofs.Common.{take}
use Rattle.ps_models.specs.Inner.Grouping.{AreUnder}
use Rattle.ps_models.proofs.by_groups.are_under.Given as goal

abbrev pub invariant-loop-place : goal.invariant-loop-place
invariant-loop-place l = AreUnder l.sentences l.group.list (take l.place-index l.group.places.items)
