use Rattle.std.proofs.Common.{◌≡◌, ℕ, ◌+◌, ◌<◌, ◌≤◌, ◌⊎◌, [], length, get_or}
use Rattle.ps_simulate.proofs.lanes.put_words.Given as goal

abbrev pub invariant-loop-place : goal.invariant-loop-place
invariant-loop-place l = record {
  done : (k : ℕ) → k < l.place → get_or l.values (l.start + k) [] ≡ get_or l.words k [];
  others : (p : ℕ) → (p < l.start) ⊎ (l.start + length l.words ≤ p) →
      get_or l.values p [] ≡ get_or l.initial.values p [];
}
