use Rattle.std.proofs.Common.{◌≡◌, ◌⊎◌, ℕ, Some, true}
use Rattle.std.specs.List.{Contains, slice_get}
use Rattle.ps_models.proofs.by_groups.mark.Given as goal

abbrev pub invariant-loop-place : goal.invariant-loop-place
invariant-loop-place l = (k : ℕ) → slice_get l.flags k ≡ Some true →
    (slice_get l.fn.flags k ≡ Some true) ⊎ Contains l.places k
