use Rattle.std.proofs.Common.{◌≡◌, ℕ, length, take, All}
use Rattle.ps_simulate.specs.NeededGates.{Needs, NeedsWire}
use Rattle.ps_simulate.proofs.needed.need_each.Given as goal

abbrev pub invariant-loop-wire : goal.invariant-loop-wire
invariant-loop-wire l = record {
  size : length l.needed ≡ length l.initial.needed;
  done : All (NeedsWire l.needed) (take l.wire-index l.wires);
  kept : (p : ℕ) → Needs l.initial.needed p → Needs l.needed p;
}
