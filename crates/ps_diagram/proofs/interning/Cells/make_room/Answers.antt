use Rattle.std.proofs.Common.{◌+◌, arith, rules}
use Rattle.ps_diagram.proofs.NodeTables.Cells.{leaves_roomy}
use Rattle.ps_diagram.proofs.interning.Cells.make_room.Goals as goal

pub invariant_of-self-then-leaf-len : goal.invariant_of-self-then-leaf-len
invariant_of-self-then-leaf-len c =
    let vec = c.self.inside.leaves in
    let more = c.resize.new.self in
    let e = c.in_ok-resize.ensures in
    leaves_roomy c.self.inside.list vec.items more.items (c.args.leaf + 1) (omega (arith, e.len, more.ok))
    (λ k d within low. e.by_index.0 k d within (omega (arith, low, vec.ok)))
    (λ k d high within. e.by_index.1 k d (search rules) (omega (arith, high, vec.ok)) within) c.self.invariant
