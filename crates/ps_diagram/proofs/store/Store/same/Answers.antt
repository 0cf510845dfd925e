use Rattle.ps_diagram.proofs.TreeOperations.Clashing.{same_node}
use Rattle.ps_diagram.proofs.store.Store.same.Goals as goal

pub returns : goal.returns
returns c = same_node c.table_is_sound.ensures.sound c.requires.first c.requires.second c.eq.ensures
