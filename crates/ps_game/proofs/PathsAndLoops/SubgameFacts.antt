-- The set of all vertices of a game is a subgame.
use Rattle.std.proofs.Common.{◌≡◌, ℕ, ◌<◌, List, Bool, true, false, replicate, length, get_or, arith, rules}
use Rattle.std.proofs.lemmas.Bool.{cases_lt, false≢true}
use Rattle.std.proofs.lemmas.List.{get_or-replicate, get_or_past, get_or_default, length-replicate}
use Rattle.std.proofs.lemmas.List.Elements.{Contains-get_or}
use Rattle.ps_game.specs.Games.{ParityGame, IsGame, vertex_count, successors_of, HasEdge}
use Rattle.ps_game.specs.Subgames.{IsSubgame, LeadsInto}
use Rattle.ps_game.specs.Regions.{has}

-- a number in a region is less than the length of the list that represents the region
pub has-below : (region : List Bool) (v : ℕ) → has region v ≡ true → v < length region
has-below region v inside = search (rules, cases_lt, false≢true, get_or_past)

-- an edge leads from the vertex v to its first successor
pub first_edge : (game : ParityGame) (v : ℕ) → IsGame game → v < vertex_count game →
    HasEdge game v (get_or (successors_of game v) 0 0)
first_edge game v is_game is_vertex = search (rules, Contains-get_or)

pub whole_game : (game : ParityGame) → IsGame game → IsSubgame game (has (replicate (vertex_count game) true))
whole_game game is_game =
    let size : length (replicate (vertex_count game) true) ≡ vertex_count game = search (rules, length-replicate) in
    let is_vertex = λ (v : ℕ) (inside : has (replicate (vertex_count game) true) v ≡ true). let below =
    has-below (replicate (vertex_count game) true) v inside in
    let less : v < vertex_count game = omega arith in less in
    record {
      vertices = is_vertex;
      goes_on = λ v inside. let edge = first_edge game v is_game (is_vertex v inside) in (
        get_or (successors_of game v) 0 0,
        record {
          edge = edge;
          inside = search (rules, get_or-replicate, is_game.within);
        },
      );
    }

-- for each index in the list of a vertex's successors, the vertex has an edge to the successor at this index
pub edge_at : (game : ParityGame) (v k : ℕ) → v < vertex_count game → k < length (successors_of game v) →
    HasEdge game v (get_or (successors_of game v) k 0)
edge_at game v k is_vertex within = (is_vertex, Contains-get_or (successors_of game v) k 0 within)

-- if an edge leads from v to w, w has an index in the list of successors of v
pub number_of_edge : (game : ParityGame) (v w : ℕ) → HasEdge game v w →
    (k : ℕ) × (k < length (successors_of game v)) × (get_or (successors_of game v) k 0 ≡ w)
number_of_edge game v w edge = search (rules, get_or_default)

-- if no successor of v is in the set, no edge leads from v into the set
pub none_leads : (game : ParityGame) (set : ℕ → Bool) (v : ℕ) →
    ((k : ℕ) → k < length (successors_of game v) → set (get_or (successors_of game v) k 0) ≡ false) → (w : ℕ) →
    LeadsInto game set v w → ⊥
none_leads game set v none w leads = grind (arith, number_of_edge game v w leads.edge)
