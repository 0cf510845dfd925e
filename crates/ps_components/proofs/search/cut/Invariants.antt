use Rattle.std.proofs.Common.{◌≡◌, ℕ, ◌≤◌, length, slice_get, Some}
use Rattle.ps_components.proofs.search.cut.Given as goal

abbrev pub invariant-loop-bound : goal.invariant-loop-bound
invariant-loop-bound l = record {
  part : (k b : ℕ) → slice_get l.bounds.items k ≡ Some b → slice_get l.initial.bounds.items k ≡ Some b;
  kept : (k b : ℕ) → slice_get l.initial.bounds.items k ≡ Some b → b ≤ l.place → slice_get l.bounds.items k ≡ Some b;
  shorter : length l.bounds.items ≤ length l.initial.bounds.items;
}

abbrev pub decreases-loop-bound : goal.decreases-loop-bound
decreases-loop-bound l = length l.bounds.items
