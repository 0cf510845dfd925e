use Rattle.std.proofs.Common.{◌≡◌, ℕ, ◌+◌, ◌*◌, ◌<◌, length, slice_index_or}
use Rattle.ps_diagram.proofs.rows.part_of.Given as goal

abbrev pub invariant-loop-place : goal.invariant-loop-place
invariant-loop-place l = record {
  one_each : length l.part.items ≡ l.place;
  each : (i : ℕ) → i < l.place → slice_index_or l.part.items i l.none ≡ slice_index_or l.nodes (l.rest + 16 * i) l.none;
}
