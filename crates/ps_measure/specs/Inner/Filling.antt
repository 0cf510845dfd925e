-- Rows of counts, which are filled for one priority after another; and cycles through vertices whose priorities do not
-- exceed a given one.
use Rattle.std.specs.Prelude.{◌≡◌, ℕ, ◌<◌, ◌≤◌, Bool, List, length, Option, nat_lt, slice_index}
use Rattle.ps_components.specs.Graphs.{Digraph}
use Rattle.ps_components.specs.Trails.{IsTrail}
use Rattle.ps_game.specs.Games.{ParityGame, vertex_count, priority_of}
use Rattle.ps_game.specs.Plays.{other_player}
use Rattle.ps_game.specs.Ranking.{ListsPriorities}
use Rattle.ps_measure.specs.declared.fault.MeasureFault.{MeasureFault}
use Rattle.ps_measure.specs.declared.fault.MeasureFault.TheVariants.{BadCycle, OutOfMemory}
use Rattle.ps_measure.specs.Sums.{sum_below, count_below}
use Rattle.ps_measure.specs.Inner.Remaining.{LowData, RemainingData, low_graph, low_weight}
use Rattle.ps_measure.specs.Inner.Columns.{AreLeast}
use Rattle.ps_measure.specs.Inner.Outcomes.{IsClosing}
use Rattle.ps_measure.specs.Ranks.{AreLeastFor, AreRows, count_of, width_of}
use Rattle.ps_measure.specs.Tables.{AreZero, HasColumn}

-- the least counts for one priority were written into the rows at index `place`; `raised` is the number of nonzero
-- counts among them
pub record IsFilled (g : Digraph) (weight : ℕ → ℕ) (old new : List (List ℕ)) (place raised : ℕ) : Type 0 where
  pub counts : ℕ → ℕ
  pub least : AreLeast g weight counts
  pub column : HasColumn old new place counts
  pub raised_is : raised ≡ count_below (λ v. nat_lt 0 (counts v)) g.count

-- each row has an entry at index `place`, and has zeros from this index on
pub record IsBlank (rows : List (List ℕ)) (place : ℕ) : Type 0 where
  pub wide : (v : ℕ) → v < length rows → place < width_of rows v
  pub none : (v k : ℕ) → place ≤ k → count_of rows v k ≡ 0

-- a cycle that consists of a link and a path from the link's target back to its source
pub record IsLowCycle (low : LowData) (cycle : List ℕ) : Type 0 where
  pub from : ℕ
  pub to : ℕ
  pub closing : IsClosing (low_graph low) (low_weight low) from to
  pub trail : IsTrail (low_graph low) cycle from to

abbrev pub IsLowRefusal : LowData → MeasureFault → Type 0
IsLowRefusal low (BadCycle cycle) = IsLowCycle low cycle.items
IsLowRefusal low OutOfMemory = Unit {0}

-- `levels` has the priority of each vertex of the game
pub record AreLevels (game : ParityGame) (levels : List ℕ) : Type 0 where
  pub each : length levels ≡ vertex_count game
  pub is : (v : ℕ) → v < vertex_count game → slice_index levels v ≡ priority_of game v

-- the rows have the least counts for the priorities before index `place`, and 0 for all other priorities; `raises` is
-- the number of nonzero counts
pub record AreRanked (game : ParityGame) (player : ℕ) (set : ℕ → Bool) (table : ℕ → Option ℕ) (priorities : List ℕ)
    (rows : List (List ℕ)) (place raises : ℕ) : Type 0 where
  pub shape : AreRows rows (vertex_count game) (length priorities)
  pub least : (k : ℕ) → k < place →
      AreLeastFor game player set table (slice_index priorities k) (λ v. count_of rows v k)
  pub after : (v k : ℕ) → place ≤ k → count_of rows v k ≡ 0
  pub raises_is : raises ≡ sum_below (λ k. count_below (λ v. nat_lt 0 (count_of rows v k)) (vertex_count game)) place

-- the list has the priorities of the game by which the player loses, and each vertex has a row with a zero for each of
-- these priorities
pub record AreUnranked (r : RemainingData) (priorities : List ℕ) (rows : List (List ℕ)) : Type 0 where
  pub listed : ListsPriorities r.game (other_player r.player) priorities
  pub zeros : AreZero rows (vertex_count r.game) (length priorities)
