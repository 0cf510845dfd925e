-- Successors and predecessors (sources) of vertices, and the members of components, are vertices of the game.
use Rattle.std.proofs.Common.{ℕ, ◌<◌, List, length, get_or, subst, Some}
use Rattle.std.specs.List.{All}
use Rattle.std.proofs.lemmas.List.Elements.{Contains-get_or}
use Rattle.std.proofs.lemmas.Option.{slice_get_within, slice_get-get_or}
use Rattle.ps_attractor.specs.Graphs.{edge_graph}
use Rattle.ps_attractor.specs.Sources.{IsSourcesOf, sources_of}
use Rattle.ps_components.specs.ComponentLists.{ComponentsData, AreComponents}
use Rattle.ps_game.specs.Games.{ParityGame, IsGame, vertex_count, successors_of}

pub successor_within : (game : ParityGame) (v k : ℕ) → IsGame game → v < vertex_count game →
    k < length (successors_of game v) → get_or (successors_of game v) k 0 < vertex_count game
successor_within game v k is_game is_vertex within =
    is_game.within v (get_or (successors_of game v) k 0) (is_vertex, Contains-get_or (successors_of game v) k 0 within)

pub sources_within : (game : ParityGame) (sources : List (List ℕ)) → IsSourcesOf game sources → (v : ℕ) →
    All (λ u. u < vertex_count game) (sources_of sources v)
sources_within game sources is v k d within =
    (is.sound (get_or (sources_of sources v) k d) v (Contains-get_or (sources_of sources v) k d within)).0

pub order_within : (game : ParityGame) (c : ComponentsData) → AreComponents (edge_graph game) c →
    All (λ v. v < vertex_count game) c.order
order_within game c are k d within =
    let v : ℕ = get_or c.order k d in
    let (number, is_in) = are.ordered k v (slice_get-get_or c.order k d within) in
    subst (λ (n : ℕ). v < n) are.counted (slice_get_within c.numbers v (Some number) is_in)
