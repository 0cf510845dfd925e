use Rattle.std.proofs.Common.{◌≡◌, ℕ, map, take}
use Rattle.ps_simulate.specs.LanePlans.{AreInOrder, move_row, rows_from}
use Rattle.ps_simulate.proofs.lane_plan.gates_of.Given as goal

abbrev pub invariant-loop-row : goal.invariant-loop-row
invariant-loop-row l = (front : ℕ) → AreInOrder front l.places l.rows →
    rows_from front l.gates.items ≡ map (move_row l.places) (take l.row-index l.rows)
