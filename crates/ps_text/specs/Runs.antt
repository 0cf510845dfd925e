-- Runs of bytes that pass a test.
-- - `AllOf p bytes`: each byte passes p
-- - `StopsBefore p rest`: the first byte of `rest`, if there is one, does not pass p
-- - `IsRun p bytes count`: exactly `count` bytes come before the first that does not pass p, or before the end
use Rattle.std.specs.Prelude.{◌≡◌, ℕ, ◌≤◌, Bool, true, false, List, [], ◌∷◌, length}
use Rattle.std.specs.List.{AllByRecursion, prefix_len}

abbrev pub AllOf : (ℕ → Bool) → List ℕ → Type 0
AllOf p bytes = AllByRecursion (λ b. p b ≡ true) bytes

abbrev pub StopsBefore : (ℕ → Bool) → List ℕ → Type 0
StopsBefore p [] = Unit {0}
StopsBefore p (b ∷ bytes) = p b ≡ false

pub record IsRun (p : ℕ → Bool) (bytes : List ℕ) (count : ℕ) : Type 0 where
  pub value : count ≡ prefix_len p bytes
  pub within : count ≤ length bytes
