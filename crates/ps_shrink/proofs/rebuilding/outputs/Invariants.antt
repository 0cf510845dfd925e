use Rattle.std.proofs.Common.{◌≡◌, All, length}
use Rattle.ps_circuit.specs.Building.{IsHeld}
use Rattle.ps_shrink.proofs.rebuilding.outputs.Given as goal

abbrev pub invariant-loop-number : goal.invariant-loop-number
invariant-loop-number l = record {
  each : length l.outputs.items ≡ l.number;
  held : All (IsHeld l.images) l.outputs.items;
}
