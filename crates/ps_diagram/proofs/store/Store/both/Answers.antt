use Rattle.ps_diagram.proofs.TreeOperations.Pairing.{adds_as, meet_at}
use Rattle.ps_diagram.proofs.store.Store.both.Goals as goal

pub returns-clause-adds : goal.returns-clause-adds
returns-clause-adds c =
    adds_as (meet_at c.allocator.ensures.sound c.requires.first c.requires.second) c.paired.ensures.adds
