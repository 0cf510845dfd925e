-- Sets of vertices and tables of moves, as lists with an entry for each vertex.
use Rattle.std.specs.Prelude.{ℕ, List, Option, None, Bool, false, slice_index_or}

-- whether the vertex v is in a set, which has a truth value for each vertex
abbrev pub has : List Bool → ℕ → Bool
has region v = slice_index_or region v false

-- the move at a vertex, if there is one
abbrev pub move_at : List (Option ℕ) → ℕ → Option ℕ
move_at strategy v = slice_index_or strategy v None
