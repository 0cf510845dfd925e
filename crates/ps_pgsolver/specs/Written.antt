-- The bytes of the text that is written for a game, in PGSolver's format.
-- - `commas ids ws`: the id of each vertex in `ws`, after a comma
-- - `list_text ids ws`: the ids of the vertices in `ws`, with commas between them
-- - `name_text name`: the name of a vertex after a space, if the vertex has one
-- - `vertex_line ids id vertex name`: the line of a vertex: its id, priority, owner, successors and name
-- - `vertex_lines ids names v vertices`: the lines of the vertices from vertex v on
-- - `game_text game`: the text of a game: a line with the greatest id, and a line for each vertex
-- - `IsWord n`: the number n fits in 64 bits
use Rattle.std.specs.Prelude.{ℕ, ◌+◌, ◌^◌, ◌<◌, List, [], ◌∷◌, ◌++◌, decimal, codes, Option, Some, None, slice_index}
use Rattle.std.specs.Prelude.{slice_index_or}
use Rattle.ps_game.specs.Games.{VertexData, ParityGame, NamedGameData, quote}
use Rattle.ps_game.specs.Plays.{greatest}

-- the number fits in 64 bits
abbrev pub IsWord : ℕ → Type 0
IsWord n = n < 2 ^ 64

abbrev pub commas : List ℕ → List ℕ → List ℕ
commas ids [] = []
commas ids (w ∷ ws) = 44 ∷ decimal (slice_index ids w) ++ commas ids ws

abbrev pub list_text : List ℕ → List ℕ → List ℕ
list_text ids [] = []
list_text ids (w ∷ ws) = decimal (slice_index ids w) ++ commas ids ws

abbrev pub name_text : Option (List ℕ) → List ℕ
name_text None = []
name_text (Some bytes) = 32 ∷ quote ∷ bytes ++ quote ∷ []

abbrev pub vertex_line : List ℕ → ℕ → VertexData → Option (List ℕ) → List ℕ
vertex_line ids id vertex name =
    decimal id ++ 32 ∷ decimal vertex.priority ++ 32 ∷ decimal vertex.owner ++ 32 ∷ list_text ids vertex.successors ++
    name_text name ++ codes ";\n"

abbrev pub vertex_lines : List ℕ → List (Option (List ℕ)) → ℕ → ParityGame → List ℕ
vertex_lines ids names v [] = []
vertex_lines ids names v (vertex ∷ vertices) =
    vertex_line ids (slice_index ids v) vertex (slice_index_or names v None) ++ vertex_lines ids names (v + 1) vertices

-- the first line that is written for a game: `parity K;`, where K is the greatest id
abbrev pub head_text : ℕ → List ℕ
head_text id = codes "parity " ++ decimal id ++ codes ";\n"

abbrev pub game_text : NamedGameData → List ℕ
game_text game = head_text (greatest game.ids) ++ vertex_lines game.ids game.names 0 game.game
