-- The loop over the predecessors of one vertex.
use Rattle.std.proofs.Common.{◌≡◌, ◌≢◌, ℕ, ◌+◌, ◌<◌, ◌≤◌, List, length, get_or, sym, ap, ◌∙◌, arith}
use Rattle.std.proofs.lemmas.List.Elements.{Contains-get_or}
use Rattle.ps_game.specs.Games.{ParityGame, HasEdge}
use Rattle.ps_attractor.specs.Sources.{sources_of, IsSourcesOf}
use Rattle.ps_attractor.specs.declared.aim.Aim.{Aim}
use Rattle.ps_attractor.specs.Tables.{TablesData, FitsGame}
use Rattle.ps_attractor.specs.Steps.{Look, Reaching, From, FromSource}
use Rattle.ps_attractor.proofs.TrailWalk.{reaching_enter, reaching_look}

-- an edge leads from each listed predecessor to the vertex
pub source_edge : {game : ParityGame} {sources : List (List ℕ)} (list : List ℕ) (w n source : ℕ) →
    IsSourcesOf game sources → list ≡ sources_of sources w → n < length list → get_or list n 0 ≡ source →
    HasEdge game source w
source_edge {sources = sources} list w n source is_sources same within is =
    let inside = rw same at within in
    rw (sym is ∙ ap (λ xs. get_or xs n 0) same)
    (is_sources.sound (get_or (sources_of sources w) n 0) w (Contains-get_or (sources_of sources w) n 0 inside))

pub enter : {game : ParityGame} {aim : Aim} {start tables : TablesData} {sources : List (List ℕ)} (place reached : ℕ) →
    IsSourcesOf game sources → get_or tables.trail place 0 ≡ reached → Reaching game aim start tables (From place) →
    Reaching game aim start tables (FromSource place (sources_of sources reached) 0)
enter place reached is_sources is so_far = rw is at (reaching_enter place is_sources so_far)

pub look_on : {game : ParityGame} {aim : Aim} {start mid : TablesData} (new : TablesData) {sources : List (List ℕ)}
    (list : List ℕ) (place reached n source : ℕ) → IsSourcesOf game sources → list ≡ sources_of sources reached →
    n < length list → get_or list n 0 ≡ source → aim.level ≢ aim.free → aim.begin ≤ length start.trail →
    aim.begin ≤ place → place < length mid.trail → FitsGame game mid → get_or mid.trail place 0 ≡ reached →
    Look game aim mid new source reached → Reaching game aim start mid (FromSource place (sources_of sources reached) n)
    → Reaching game aim start new (FromSource place (sources_of sources reached) (n + 1))
look_on {game} {aim} {mid} new {sources} list place reached n source is_sources same within is marks begins after here
    fits reached_is look so_far =
    let edge = source_edge list reached n source is_sources same within is in
    reaching_look new (sources_of sources reached) place n source marks (rw (← same) is) begins after here
    (omega (arith, fits.levels)) (omega (arith, fits.choices)) (rw reached_is edge) (rw reached_is look) so_far
