use Rattle.std.proofs.Common.{◌≡◌, ◌+◌, ℕ, length, get_or, drop}
use Rattle.ps_attractor.specs.Tables.{place_in}
use Rattle.ps_attractor.specs.Aims.{StandsFrom}
use Rattle.ps_attractor.proofs.attractor.first_places.Given as goal

abbrev pub invariant-loop-place : goal.invariant-loop-place
invariant-loop-place g l = record {
  size : length l.places.items ≡ l.count;
  found : (v : ℕ) → StandsFrom l.tables l.place v → get_or l.places.items v 0 ≡ l.place + place_in
      (drop l.place l.tables.trail) v;
}
