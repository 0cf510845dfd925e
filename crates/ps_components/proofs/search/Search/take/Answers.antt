use Rattle.std.proofs.Common.{arith}
use Rattle.ps_components.proofs.Places.{length-but_last}
use Rattle.ps_components.proofs.Merging.{sound-taken}
use Rattle.ps_components.proofs.search.Search.take.Goals as goal

pub returns : goal.returns
returns g c =
    grind (arith, length-but_last, sound-taken c.requires.next.sound c.requires.next.last c.requires.settled)
