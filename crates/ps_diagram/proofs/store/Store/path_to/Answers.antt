use Rattle.std.proofs.Common.{sym}
use Rattle.ps_diagram.proofs.ClassesOfLetters.Gathering.{path_none, path_some}
use Rattle.ps_diagram.proofs.store.Store.path_to.Goals as goal

pub returns-in-Some : goal.returns-in-Some
returns-in-Some c = rw c.as_slice.ensures
    (path_some c.args.leaf c.in-Some.place c.in_ok-found.ensures (sym c.in-Some.ensures)).1

pub returns : goal.returns
returns c = path_none c.args.leaf c.in_ok-found.ensures (sym c.in-None.ensures)
