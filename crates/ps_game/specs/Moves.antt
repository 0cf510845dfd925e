-- A table of moves in two lists: the vertices that have a move, and the move of each vertex.
use Rattle.std.specs.Prelude.{ℕ, List, Option, Some, None, Bool, length, map, slice_index, if◌then◌else◌}
use Rattle.std.specs.List.{range_with_len}
use Rattle.ps_game.specs.Regions.{has}

-- the move of the vertex v: its entry in the list `moves` if v is in the set `chosen`, and otherwise None
abbrev pub move_in : List Bool → List ℕ → ℕ → Option ℕ
move_in chosen moves v = if has chosen v then Some (slice_index moves v) else None

-- the table of moves that the set `chosen` and the list `moves` represent
unfoldable pub moves_of : List Bool → List ℕ → List (Option ℕ)
moves_of chosen moves = map (move_in chosen moves) (range_with_len 0 (length moves))
