-- For each variable below a limit, whether it is in a list; and the list's other variables.
use Rattle.std.specs.Prelude.{◌≡◌, ◌==◌, ℕ, ◌<◌, ◌≤◌, Bool, false, List, length, slice_index_or}
use Rattle.std.specs.List.{list_any}

pub record AreKept (variables : List ℕ) (near : List Bool) (far : List ℕ) : Type 0 where
  pub below : (v : ℕ) → v < length near → slice_index_or near v false ≡ list_any (λ other. v == other) variables
  pub above : (v : ℕ) → length near ≤ v →
      list_any (λ other. v == other) far ≡ list_any (λ other. v == other) variables
