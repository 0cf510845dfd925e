use Rattle.std.proofs.Common.{◌≡◌, All, length}
use Rattle.ps_circuit.specs.Building.{IsHeld}
use Rattle.ps_shrink.proofs.rebuilding.cells.Given as goal

abbrev pub invariant-loop-latch : goal.invariant-loop-latch
invariant-loop-latch l = record {
  each : length l.cells.items ≡ l.latch-index;
  held : All (λ cell. IsHeld l.images cell.next) l.cells.items;
}
