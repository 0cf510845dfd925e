-- The graphs `remaining_graph` and `low_graph`, on which counts are computed, and the edges of the game that the links
-- of these graphs stand for.
use Rattle.std.proofs.Common.{rules, ◌≡◌, ℕ, ◌+◌, ◌<◌, ◌≤◌, ◌∙◌, length, inl, inr, refl, sym, ap}
use Rattle.std.proofs.Common.{arith, Option, Some, Bool, true, false, cond, nat_le, not, ◌&&◌, ◌||◌}
use Rattle.std.specs.Prelude.{slice_index, ◌==◌}
use Rattle.std.proofs.lemmas.Bool.{cases_eq, eqb-true, eq-eqb, ne_eqb, and_parts, and_from, or_cases, or_left, or_right}
use Rattle.std.proofs.lemmas.Bool.{leb-true, leb-false, le-leb, not-true, not_from_false}
use Rattle.std.proofs.lemmas.List.{get_or_default}
use Rattle.std.proofs.lemmas.Option.{cond_some}
use Rattle.ps_attractor.specs.Sources.{sources_of}
use Rattle.ps_components.specs.Graphs.{Digraph, Link}
use Rattle.ps_game.specs.Games.{ParityGame, IsGame, HasEdge, vertex_count, owner_of, successors_of}
use Rattle.ps_game.specs.Regions.{has, move_at}
use Rattle.ps_game.specs.Ranking.{RemainsWithin}
use Rattle.ps_measure.specs.Inner.Remaining.{RemainingData, is_move, remaining_graph, source_graph, IsReverse}
use Rattle.ps_measure.specs.Inner.Remaining.{LowData, IsLow, low_graph, low_weight}
use Rattle.ps_measure.specs.Sums.{counted}

-- an edge that remains within the region; the value r gives the game, the player, the region and the moves
abbrev pub Remains : RemainingData → ℕ → ℕ → Type 0
Remains r = RemainsWithin r.game r.player (has r.region) (move_at r.strategy)

-- each successor of a vertex of a game is a vertex
pub successor_within : (game : ParityGame) (v k : ℕ) → IsGame game → v < vertex_count game →
    k < length (successors_of game v) → slice_index (successors_of game v) k < vertex_count game
successor_within game v k is_game below within = is_game.within v (slice_index (successors_of game v) k) (
  below,
  (k, within, get_or_default (successors_of game v) k (slice_index (successors_of game v) k) 0 within),
)

is_move-some : (o : Option ℕ) (w : ℕ) → is_move o w ≡ true → o ≡ Some w
is_move-some o w h = search (rules, eqb-true)

some-is_move : (o : Option ℕ) (w : ℕ) → o ≡ Some w → is_move o w ≡ true
some-is_move o w e = rw e (eq-eqb w w refl)

-- if k is less than `cond b n 0` (n if b is true, and otherwise 0), b is true and k is less than n
pub below_places : (b : Bool) (k n : ℕ) → k < cond b n 0 → (b ≡ true) × (k < n)
below_places b k n below = search rules

-- ## Remaining edges, by a test

-- a test for remaining edges: both ends are in the set, and if the player owns the source, the edge is the player's
-- move
abbrev pub may_stay : ParityGame → ℕ → (ℕ → Bool) → (ℕ → Option ℕ) → ℕ → ℕ → Bool
may_stay game player set table v w = set v && set w && (not (owner_of game v == player) || is_move (table v) w)

module _ {game : ParityGame} {player : ℕ} {set : ℕ → Bool} {table : ℕ → Option ℕ} {v w : ℕ} where
  pub stays_so : HasEdge game v w → may_stay game player set table v w ≡ true → RemainsWithin game player set table v w
  stays_so edge may = search (rules, and_parts, or_cases, eq-eqb, not-true, is_move-some)

  pub so_stays : RemainsWithin game player set table v w → may_stay game player set table v w ≡ true
  so_stays remains = search (rules, and_from, cases_eq, or_right, some-is_move, or_left, not_from_false, ne_eqb)

-- each link of `remaining_graph` is an edge that remains within the region
pub link_remains : (r : RemainingData) {v w : ℕ} → Link (remaining_graph r) v w → Remains r v w
link_remains r {v} {w} link = search (rules, cond_some, below_places, stays_so, get_or_default)

-- each edge that remains within the region is a link of `remaining_graph`
pub remains_link : (r : RemainingData) {v w : ℕ} → Remains r v w → Link (remaining_graph r) v w
remains_link r {v} {w} remains = search (rules, get_or_default, so_stays)

-- ## Links of low vertices

-- each listed source is a vertex
pub source_low : (low : LowData) (v k : ℕ) → IsLow low → v < length low.sources →
    k < length (sources_of low.sources v) → slice_index (sources_of low.sources v) k < length low.sources
source_low low v k is below within = is.within v (slice_index (sources_of low.sources v) k)
    (record { from = below; place = k; at = within; target = refl })

-- each link of `low_graph` is a link of the stored graph between vertices whose priorities are at most `low.priority`
pub low_link : (low : LowData) {w v : ℕ} → Link (low_graph low) w v → Link (source_graph low.sources) w v ×
    (slice_index low.levels w ≤ low.priority) × (slice_index low.levels v ≤ low.priority)
low_link low {w} {v} link = search (rules, below_places, cond_some, leb-true)

pub link_low : (low : LowData) {w v : ℕ} → Link (source_graph low.sources) w v →
    slice_index low.levels w ≤ low.priority → slice_index low.levels v ≤ low.priority → Link (low_graph low) w v
link_low low {w} {v} link from to = search (rules, le-leb)

-- ## Roots

-- each of the first k links of v leads to a vertex whose priority is greater than `low.priority`
pub record NoneLow (g : Digraph) (low : LowData) (v k : ℕ) : Type 0 where
  pub none : (w : ℕ) (link : Link g v w) → link.place < k → low.priority < slice_index low.levels w

pub none_low_next : {g : Digraph} {low : LowData} {v k : ℕ} {o : Option ℕ} → g.target v k ≡ o →
    ((w : ℕ) → o ≡ Some w → low.priority < slice_index low.levels w) → NoneLow g low v k → NoneLow g low v (k + 1)
none_low_next {g} {v = v} {k} target high so_far = record {
  none = λ w link below. elim (cases_eq link.place k) [
    | inl same ↦ high w (sym target ∙ ap (g.target v) (sym same) ∙ link.target)
    | inr apart ↦ so_far.none w link (omega (arith, below, apart))
  ];
}

pub high_target : (low : LowData) {to w : ℕ} → Some to ≡ Some w →
    nat_le (slice_index low.levels to) low.priority ≡ false → low.priority < slice_index low.levels w
high_target low {to} {w} same high = search (rules, leb-false)

-- a link of g between vertices whose priorities are at most `low.priority`, reversed, is a link of `low_graph`
pub leads_low : {g : Digraph} (low : LowData) {v : ℕ} (k : ℕ) {w : ℕ} → IsReverse g (source_graph low.sources) →
    v < g.count → k < g.degree v → g.target v k ≡ Some w → slice_index low.levels v ≤ low.priority →
    nat_le (slice_index low.levels w) low.priority ≡ true → Link (low_graph low) w v
leads_low low {v} k {w} reverse below within target from to =
    link_low low (reverse.there v w (grind arith)) (leb-true (slice_index low.levels w) low.priority to) from

pub leads_nowhere : {g : Digraph} {low : LowData} {v k w : ℕ} → IsReverse g (source_graph low.sources) →
    g.degree v ≤ k → NoneLow g low v k → Link (low_graph low) w v → ⊥
leads_nowhere {low = low} {v} {w = w} reverse all none link =
    let parts = low_link low link in
    let there = reverse.back v w parts.0 in
    omega (arith, none.none w there (omega (arith, there.at, all)), parts.1)

-- if a vertex has the weight 1, it is in the region and has the priority `low.priority`
heavy_parts : (a b : Bool) → counted (a && b) ≡ 1 → (a ≡ true) × (b ≡ true)
heavy_parts a b e = search rules

pub heavy_inside : (low : LowData) (v : ℕ) → low_weight low v ≡ 1 → has low.region v ≡ true
heavy_inside low v heavy = (heavy_parts (slice_index low.levels v == low.priority) (has low.region v) heavy).1

pub heavy_level : (low : LowData) (v : ℕ) → low_weight low v ≡ 1 → slice_index low.levels v ≡ low.priority
heavy_level low v heavy = search (rules, eqb-true, heavy_parts)
