-- Propositions renamed by a table.
-- - `IsWithin n table`: the table renames each proposition less than n to one less than n
-- - `names_by from names`: the names in another order, in which proposition p has the name of proposition (from p)
use Rattle.std.specs.Prelude.{ℕ, ◌<◌, List, [], length, map, slice_index_or}
use Rattle.std.specs.List.{range_with_len}
use Rattle.ps_mixing.specs.Orders.{place_in}

abbrev pub IsWithin : ℕ → List ℕ → Type 0
IsWithin n table = (p : ℕ) → p < n → place_in table p < n

abbrev pub names_by : (ℕ → ℕ) → List (List ℕ) → List (List ℕ)
names_by from names = map (λ p. slice_index_or names (from p) []) (range_with_len 0 (length names))
