-- A draft of a game is an unfinished game, whose vertices may have no successors, repeated successors, or successors
-- that are not vertices.
use Rattle.std.specs.Prelude.{◌≡◌, ◌≢◌, ℕ, ◌<◌, ◌++◌, ◌∷◌, List, [], length, map, find, filter, not, ◌==◌, nat_le, Some}
use Rattle.std.specs.Prelude.{slice_index, slice_set}
use Rattle.ps_game.specs.Games.{VertexData, ParityGame, vertex_count, owner_of, priority_of, successors_of}
use Rattle.std.specs.List.{All, AllPairs}
use Rattle.ps_ids.specs.Ids.{place_of}

-- the unfinished game (draft) with one more vertex, which has no successor yet
abbrev pub with_vertex : ParityGame → ℕ → ℕ → ParityGame
with_vertex draft owner priority = draft ++ record { owner = owner; priority = priority; successors = [] } ∷ []

-- the unfinished game (draft) in which the vertex v has w as one more successor
abbrev pub with_edge : ParityGame → ℕ → ℕ → ParityGame
with_edge draft v w =
    slice_set draft v (record {
      owner = owner_of draft v;
      priority = priority_of draft v;
      successors = successors_of draft v ++ w ∷ [];
    })

-- the distinct numbers of a list, in the order of their first occurrences
abbrev pub distinct : List ℕ → List ℕ
distinct [] = []
distinct (x ∷ xs) = x ∷ filter (λ y. not (x == y)) (distinct xs)

-- the vertex without repeated successors, which are in the order of their first occurrences
abbrev pub vertex_without_repeats : VertexData → VertexData
vertex_without_repeats v = record v { successors = distinct v.successors }

abbrev pub without_repeats : ParityGame → ParityGame
without_repeats draft = map vertex_without_repeats draft

-- each vertex of the draft has a successor
abbrev pub NoneBare : ParityGame → Type 0
NoneBare draft = (v : ℕ) → v < vertex_count draft → 0 < length (successors_of draft v)

-- v is the smallest vertex of the draft that no edge leaves
pub record IsFirstBare (draft : ParityGame) (v : ℕ) : Type 0 where
  pub is_vertex : v < vertex_count draft
  pub bare : successors_of draft v ≡ []
  pub before : (u : ℕ) → u < v → 0 < length (successors_of draft u)

-- each vertex of the draft has a successor, v is the smallest vertex with an unknown successor (a number that is not a
-- vertex), and w is the first unknown successor of v
pub record IsFirstUnknown (draft : ParityGame) (v w : ℕ) : Type 0 where
  pub none_bare : NoneBare draft
  pub is_vertex : v < vertex_count draft
  pub unknown : find (λ successor. nat_le (vertex_count draft) successor) (successors_of draft v) ≡ Some w
  pub before : (u : ℕ) → u < v → All (λ x. x < vertex_count draft) (successors_of draft u)

-- each successor in the draft is a vertex
abbrev pub NoneUnknown : ParityGame → Type 0
NoneUnknown draft = (v : ℕ) → v < vertex_count draft → All (λ w. w < vertex_count draft) (successors_of draft v)

-- no vertex has a successor twice
abbrev pub HaveNoRepeats : ParityGame → Type 0
HaveNoRepeats draft = All (λ v. AllPairs (λ x y. x ≢ y) v.successors) draft

-- the vertex in which each successor, given as an id, is replaced by the index of the id in the list `ids`
abbrev pub with_places : List ℕ → VertexData → VertexData
with_places ids v = record v { successors = map (place_of ids) v.successors }

-- each id is its own index: the ids are 0, 1, 2 and so on
abbrev pub AreOwn : List ℕ → Type 0
AreOwn ids = (place : ℕ) → place < length ids → slice_index ids place ≡ place
