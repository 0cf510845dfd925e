-- Parity games, and games whose vertices have ids and names.
use Rattle.std.specs.Prelude.{◌≡◌, ◌≢◌, ℕ, ◌<◌, List, [], length, Option, IfSome, slice_index_or}
use Rattle.std.specs.List.{All, AllPairs, Contains}

-- a vertex: the player who moves there, its priority, and its successors
pub record VertexData : Type 0 where
  pub owner : ℕ
  pub priority : ℕ
  pub successors : List ℕ

-- a game is the list of its vertices 0, 1, 2 and so on
abbrev pub ParityGame : Type 0
ParityGame = List VertexData

-- the default for the vertex at an index past the end of a game's list of vertices
abbrev pub no_vertex : VertexData
no_vertex = record { owner = 0; priority = 0; successors = [] }

unfoldable pub vertex_count : ParityGame → ℕ
vertex_count game = length game

unfoldable pub owner_of : ParityGame → ℕ → ℕ
owner_of game v = (slice_index_or game v no_vertex).owner

unfoldable pub priority_of : ParityGame → ℕ → ℕ
priority_of game v = (slice_index_or game v no_vertex).priority

unfoldable pub successors_of : ParityGame → ℕ → List ℕ
successors_of game v = (slice_index_or game v no_vertex).successors

-- v is a vertex of the game, and an edge leads from v to w
abbrev pub HasEdge : ParityGame → ℕ → ℕ → Type 0
HasEdge game v w = (v < vertex_count game) × Contains (successors_of game v) w

-- each vertex has an owner 0 or 1 and a non-empty list of distinct successors, which are vertices
pub record IsGame (game : ParityGame) : Type 0 where
  pub owners : (v : ℕ) → v < vertex_count game → owner_of game v < 2
  pub has_successor : (v : ℕ) → v < vertex_count game → 0 < length (successors_of game v)
  pub different : (v : ℕ) → v < vertex_count game → AllPairs (λ x y. x ≢ y) (successors_of game v)
  pub within : (v w : ℕ) → HasEdge game v w → w < vertex_count game

-- a game with an id and an optional name for each vertex; a name is a list of bytes
pub record NamedGameData : Type 0 where
  pub game : ParityGame
  pub ids : List ℕ
  pub names : List (Option (List ℕ))

-- the byte that encloses a name in a game text
abbrev pub quote : ℕ
quote = 34

-- the name contains no quote, so it can be written between two quotes
abbrev pub HasNoQuote : Option (List ℕ) → Type 0
HasNoQuote name = IfSome name (λ bytes. ¬ Contains bytes quote)

-- each vertex has an id and an optional name, and all ids are distinct
pub record IsNamedGame (named : NamedGameData) : Type 0 where
  pub is_game : IsGame named.game
  pub id_each : length named.ids ≡ vertex_count named.game
  pub name_each : length named.names ≡ vertex_count named.game
  pub ids_differ : AllPairs (λ x y. x ≢ y) named.ids
  pub names_plain : All HasNoQuote named.names
