use Rattle.ps_diagram.proofs.ClassesOfLetters.Gathering.{are_leaves}
use Rattle.ps_diagram.proofs.store.Store.leaves.Goals as goal

pub returns : goal.returns
returns c = rw c.into_list.ensures (are_leaves c.in_ok-found.ensures)
