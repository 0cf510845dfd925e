use Rattle.std.proofs.Common.{◌≡◌, ◌<◌, ◌≤◌, ℕ, get_or}
use Rattle.ps_ids.specs.Ids.{place_of}
use Rattle.ps_game.proofs.vertices.places_in.Given as goal

-- the ids before position `at` have been replaced by their indices
abbrev pub invariant-loop-at : goal.invariant-loop-at
invariant-loop-at l = record {
  done : (k : ℕ) → k < l.at → get_or l.numbers k 0 ≡ place_of l.ids (get_or l.fn.numbers k 0);
  left : (k : ℕ) → l.at ≤ k → get_or l.numbers k 0 ≡ get_or l.fn.numbers k 0;
}
