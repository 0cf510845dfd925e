use Rattle.std.proofs.Common.{sym}
use Rattle.ps_diagram.proofs.NodeTables.LeafTables.{early_placed, later_placed, nowhere}
use Rattle.ps_diagram.proofs.leaf_table.LeafTable.find.Goals as goal

pub returns-in-Some : goal.returns-in-Some
returns-in-Some c = rw (← c.self.view_is) (sym (early_placed c.self.invariant c.args.leaf c.in-Some.place
    (rw c.deref.ensures.value at c.in-Some.ensures)))

pub returns-in-Some-find : goal.returns-in-Some-find
returns-in-Some-find c =
    let found = c.in-Some-find.ensures in
    rw (← c.self.view_is) (sym (later_placed c.self.invariant c.args.leaf c.in-Some-find.place found.0 found.1))

pub returns-in-None-find : goal.returns-in-None-find
returns-in-None-find c = rw (← c.self.view_is) (sym (nowhere c.self.invariant c.args.leaf
    (rw c.deref.ensures.value at c.in-None.ensures) c.in-None-find.ensures))
