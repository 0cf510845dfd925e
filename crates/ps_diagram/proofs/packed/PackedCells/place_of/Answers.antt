use Rattle.std.proofs.Common.{rules}
use Rattle.ps_diagram.proofs.NodeTables.PackedLemmas.{looked_up}
use Rattle.ps_diagram.proofs.packed.PackedCells.place_of.Goals as goal

pub returns : goal.returns
returns c =
    let found = looked_up c.args.cell c.requires c.self.invariant (rw c.of.ensures at c.in_ok-place.ensures.0) in
    record { adds = rw c.self.view_is at found.1; there = found.2; err = search rules }
