use Rattle.std.proofs.Common.{arith}
use Rattle.std.proofs.lemmas.List.{map-append, length-map}
use Rattle.ps_label.proofs.Tables.{push_ordered}
use Rattle.ps_label.proofs.labels.Labels.push.Goals as goal

pub invariant_of-self-2 : goal.invariant_of-self-2
invariant_of-self-2 c = grind (arith, length-map, map-append, push_ordered)
