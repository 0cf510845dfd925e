-- The table of counts after the counts for one more priority were written, and after the counts for all priorities were
-- written.
use Rattle.std.proofs.Common.{◌≡◌, ℕ, ◌+◌, ◌<◌, ◌≤◌, List, length, arith, Bool, Option, rules}
use Rattle.std.specs.Prelude.{slice_index}
use Rattle.ps_game.specs.Games.{ParityGame, IsGame, vertex_count}
use Rattle.ps_game.specs.Plays.{other_player}
use Rattle.ps_game.specs.Regions.{has, move_at}
use Rattle.ps_game.specs.Ranking.{ListsPriorities}
use Rattle.ps_measure.specs.declared.fault.MeasureFault.{MeasureFault}
use Rattle.ps_measure.specs.declared.fault.MeasureFault.TheVariants.{BadCycle, OutOfMemory}
use Rattle.ps_measure.specs.Inner.Remaining.{RemainingData, remaining_graph, source_graph, IsReverse, LowData}
use Rattle.ps_measure.specs.Inner.Remaining.{low_graph, low_weight}
use Rattle.ps_measure.specs.Inner.Filling.{AreRanked, IsFilled, IsLowRefusal, AreLevels}
use Rattle.ps_measure.specs.Ranks.{AreRanks, IsRefusal, total_of, raised_of, most_raises}
use Rattle.ps_measure.proofs.RaisedCounts.LeastInGame.{least_for, lost_cycle}
use Rattle.ps_measure.proofs.CountRows.Rows.{Row, ranked_more, raised-le-total, raised-le-most}

-- the graph, region and priority (`LowData`) for computing the counts of the priority at an index of the list
pub record IsAtPlace (r : RemainingData) (low : LowData) (priorities : List ℕ) (place : ℕ) : Type 0 where
  pub is_game : IsGame r.game
  pub levels : AreLevels r.game low.levels
  pub reverse : IsReverse (remaining_graph r) (source_graph low.sources)
  pub regions : low.region ≡ r.region
  pub within : place < length priorities
  pub priority : low.priority ≡ slice_index priorities place

pub is_at_place : {game : ParityGame} (player : ℕ) (region : List Bool) (strategy : List (Option ℕ))
    (sources : List (List ℕ)) {levels : List ℕ} (priorities : List ℕ) (place : ℕ) → IsGame game → AreLevels game levels →
    IsReverse (remaining_graph (record { game = game; player = player; region = region; strategy = strategy }))
    (source_graph sources) → place < length priorities →
    IsAtPlace (record { game = game; player = player; region = region; strategy = strategy })
    (record { sources = sources; region = region; levels = levels; priority = slice_index priorities place })
    priorities place
is_at_place player region strategy sources priorities place is_game levels reverse within = search rules

module _ {r : RemainingData} {low : LowData} {priorities : List ℕ} {place : ℕ}
    (at : IsAtPlace r low priorities place) where
  pub column_done : {old new : List Row} {raises raised : ℕ} →
      IsFilled (low_graph low) (low_weight low) old new place raised →
      AreRanked r.game r.player (has r.region) (move_at r.strategy) priorities old place raises →
      AreRanked r.game r.player (has r.region) (move_at r.strategy) priorities new (place + 1) (raises + raised)
  column_done filled so_far =
      ranked_more (rw at.priority at (least_for r low at.is_game at.levels at.reverse at.regions filled.least))
      filled.column (rw at.reverse.count at filled.raised_is) so_far

  pub refused : (fault : MeasureFault) → ListsPriorities r.game (other_player r.player) priorities →
      IsLowRefusal low fault → IsRefusal r.game r.player (has r.region) (move_at r.strategy) fault
  refused (BadCycle cycle) listed way = lost_cycle r low at.is_game at.levels at.reverse at.regions way (grind arith)
  refused OutOfMemory listed way = tt

-- once all priorities are handled, the table has the least counts, and the number of raises is within its promised
-- bounds
pub whole : {game : ParityGame} {player : ℕ} {set : ℕ → Bool} {table : ℕ → Option ℕ} {priorities : List ℕ}
    {rows : List Row} {raises : ℕ} → ListsPriorities game (other_player player) priorities →
    AreRanked game player set table priorities rows (length priorities) raises
    → AreRanks game player set table priorities rows × (raised_of rows (vertex_count game) (length priorities) ≤ raises)
    × (raises ≤ total_of rows (vertex_count game) (length priorities)) × (raises ≤ most_raises game set priorities)
whole {game} {priorities = priorities} {rows} listed ranked = grind (
  arith,
  raised-le-total rows (vertex_count game) (length priorities),
  raised-le-most priorities rows ranked.least,
)
