-- Mixings as tables.
-- - `mixing_of order`: the mixing whose two tables the code has made; it keeps each number beyond them
use Rattle.std.specs.Prelude.{ℕ, List, slice_index_or}
use Rattle.ps_mixing.specs.Mixings.{Mixing}
use Rattle.ps_mixing.specs.declared.order.Permutation.{Permutation}

abbrev pub place_in : List ℕ → ℕ → ℕ
place_in table p = slice_index_or table p p

abbrev pub mixing_of : Permutation → Mixing
mixing_of order = record { to = place_in order.to.items; from = place_in order.from.items }
