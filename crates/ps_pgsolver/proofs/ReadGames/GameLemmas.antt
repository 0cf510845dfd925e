-- The nodes that are parsed from a game text make a well-formed game.
use Rattle.std.proofs.Common.{◌≡◌, ℕ, zero, suc, ◌<◌, List, [], ◌∷◌, length, map, refl, arith, rules}
use Rattle.std.proofs.lemmas.List.{length-map}
use Rattle.std.proofs.lemmas.List.Elements.{All-map}
use Rattle.std.proofs.lemmas.List.Quantifiers.{position-Some}
use Rattle.std.specs.List.{All, Contains}
use Rattle.ps_game.specs.Games.{ParityGame, NamedGameData, vertex_count, successors_of}
use Rattle.ps_game.specs.Drafts.{NoneBare, NoneUnknown}
use Rattle.ps_pgsolver.specs.GamesOf.{place_of, vertex_of_node, draft_of, game_of, named_game_of}
use Rattle.ps_pgsolver.specs.Nodes.{NodeData, IsReadNode, KnowsAll, ids_of, names_of}

-- ## Why the parsed nodes make a game

all_head : {X : Type 0} (P : X → Type 0) (x : X) (xs : List X) → All P (x ∷ xs) → P x
all_head P x xs h = h 0 x (omega arith)

all_tail : {X : Type 0} (P : X → Type 0) (x : X) (xs : List X) → All P (x ∷ xs) → All P xs
all_tail P x xs h = λ k d l. h (suc k) d (omega (arith, l))

-- the index of an id that a list contains is less than the length of the list
place-within : (ids : List ℕ) (id : ℕ) → Contains ids id → place_of ids id < length ids
place-within ids id h = search (rules, position-Some)

places_within : (ids xs : List ℕ) → All (λ id. Contains ids id) xs → All (λ s. s < length ids) (map (place_of ids) xs)
places_within ids xs h = search (rules, All-map, place-within)

-- each vertex of the game that is made from a list of nodes has the successors of one of these nodes
pub draft_at : (ids : List ℕ) (nodes : List NodeData) (v : ℕ) → v < vertex_count (draft_of ids nodes) →
    (node : NodeData) × (successors_of (draft_of ids nodes) v ≡ map (place_of ids) node.successors) ×
    ((P : NodeData → Type 0) → All P nodes → P node)
unfolding vertex_count successors_of
draft_at ids [] v l = absurd (omega (arith, l))
draft_at ids (n ∷ nodes) zero l = (n, refl, λ P h. all_head P n nodes h)
draft_at ids (n ∷ nodes) (suc v) l =
    let r = draft_at ids nodes v (omega (arith, l)) in (r.0, r.1, λ P h. r.2 P (all_tail P n nodes h))

draft_count : (ids : List ℕ) (nodes : List NodeData) → vertex_count (draft_of ids nodes) ≡ length nodes
unfolding vertex_count
draft_count ids nodes = length-map nodes (vertex_of_node ids)

pub draft_bare : (ids : List ℕ) (nodes : List NodeData) → All IsReadNode nodes → NoneBare (draft_of ids nodes)
draft_bare ids nodes h v l =
    let r = draft_at ids nodes v l in
    grind (arith, length-map)

pub draft_known : {ids : List ℕ} (nodes : List NodeData) → ids ≡ ids_of nodes → KnowsAll ids nodes →
    NoneUnknown (draft_of ids nodes)
draft_known {ids} nodes e h v l = let r = draft_at ids nodes v l in
    grind (arith, draft_count, length-map, places_within)

pub same_named : {named : NamedGameData} (nodes : List NodeData) → named.game ≡ game_of nodes →
    named.ids ≡ ids_of nodes → named.names ≡ names_of nodes → named ≡ named_game_of nodes
same_named {named} nodes g i n = search rules

pub named_count : {game : ParityGame} (nodes : List NodeData) → game ≡ game_of nodes → vertex_count game ≡ length nodes
unfolding vertex_count
named_count nodes e = search (rules, length-map)
