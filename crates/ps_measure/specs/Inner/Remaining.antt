-- The graph of the edges that remain within a region; and the graph of the reversed remaining edges, without the edges
-- that have an end whose priority is greater than a given one.
use Rattle.std.specs.Prelude.{◌≡◌, ℕ, List, length, Option, None, Some, Bool, not, ◌&&◌, ◌||◌, ◌==◌}
use Rattle.std.specs.Prelude.{nat_le, false, if◌then◌else◌, slice_index}
use Rattle.ps_attractor.specs.Sources.{sources_of}
use Rattle.ps_components.specs.Graphs.{Digraph, Link, LinksStayWithin}
use Rattle.ps_game.specs.Games.{ParityGame, vertex_count, owner_of, successors_of}
use Rattle.ps_game.specs.Regions.{has, move_at}
use Rattle.ps_measure.specs.Sums.{counted}

-- a game, a player, and a region and a table of moves for the player
pub record RemainingData : Type 0 where
  pub game : ParityGame
  pub player : ℕ
  pub region : List Bool
  pub strategy : List (Option ℕ)

-- the region and the strategy have one entry for each vertex of the game
pub record IsRemaining (r : RemainingData) : Type 0 where
  pub region_fits : length r.region ≡ vertex_count r.game
  pub strategy_fits : length r.strategy ≡ vertex_count r.game

-- whether an optional move is present and leads to the vertex w
abbrev pub is_move : Option ℕ → ℕ → Bool
is_move None w = false
is_move (Some move) w = move == w

-- whether an edge from v to w, if the game has it, remains within the region
abbrev pub may_remain : RemainingData → ℕ → ℕ → Bool
may_remain r v w =
    has r.region v && has r.region w && (not (owner_of r.game v == r.player) || is_move (move_at r.strategy v) w)

-- the graph whose links are the edges that remain within the region when the player moves by the table
abbrev pub remaining_graph : RemainingData → Digraph
remaining_graph r = record {
  count = vertex_count r.game;
  degree = λ v. if has r.region v then length (successors_of r.game v) else 0;
  target = λ v k. let w = slice_index (successors_of r.game v) k in if may_remain r v w then Some w else None;
}

-- the graph in which each vertex has a link to each entry of its list
abbrev pub source_graph : List (List ℕ) → Digraph
source_graph sources = record {
  count = length sources;
  degree = λ v. length (sources_of sources v);
  target = λ v k. Some (slice_index (sources_of sources v) k);
}

-- the second graph has the links of the first graph, reversed
pub record IsReverse (g r : Digraph) : Type 0 where
  pub count : r.count ≡ g.count
  pub there : (v w : ℕ) → Link g v w → Link r w v
  pub back : (v w : ℕ) → Link r w v → Link g v w

-- the data from which the counts for one priority are computed: for each vertex, the vertices with a remaining edge to
-- it; a region; the level (priority) of each vertex; and the one priority
pub record LowData : Type 0 where
  pub sources : List (List ℕ)
  pub region : List Bool
  pub levels : List ℕ
  pub priority : ℕ

-- the region and the list of levels have one entry for each vertex, and the listed sources are vertices
pub record IsLow (low : LowData) : Type 0 where
  pub region_fits : length low.region ≡ length low.sources
  pub levels_fit : length low.levels ≡ length low.sources
  pub within : LinksStayWithin (source_graph low.sources)

-- the links from each vertex to its sources, without those whose source or target has a level greater than
-- `low.priority`
abbrev pub low_graph : LowData → Digraph
low_graph low = record {
  count = length low.sources;
  degree = λ v. if nat_le (slice_index low.levels v) low.priority then length (sources_of low.sources v) else 0;
  target = λ v k. let w = slice_index (sources_of low.sources v) k in
      if nat_le (slice_index low.levels w) low.priority then Some w else None;
}

-- the weight of a vertex: 1 if it is in the region and its level equals `low.priority`, and otherwise 0
abbrev pub low_weight : LowData → ℕ → ℕ
low_weight low v = counted ((slice_index low.levels v == low.priority) && has low.region v)
