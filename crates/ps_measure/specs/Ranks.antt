-- The least counts (a progress measure) of a player's region for the priorities by which the player loses, which are
-- those of the opponent's parity; and cycles that the player loses.
use Rattle.std.specs.Prelude.{◌≡◌, ℕ, ◌+◌, ◌-◌, ◌*◌, ◌%◌, ◌<◌, ◌≤◌, ◌&&◌, ◌==◌, List, length, map, Option, None, Some}
use Rattle.std.specs.Prelude.{Bool, IsTrue, nat_lt, slice_get, slice_index}
use Rattle.ps_game.specs.Games.{ParityGame, vertex_count, priority_of}
use Rattle.ps_game.specs.Plays.{greatest, other_player}
use Rattle.ps_game.specs.Ranking.{RemainsWithin, ListsPriorities, KeepRuleWithin}
use Rattle.ps_measure.specs.declared.fault.MeasureFault.{MeasureFault}
use Rattle.ps_measure.specs.declared.fault.MeasureFault.TheVariants.{BadCycle, OutOfMemory}
use Rattle.ps_measure.specs.Sums.{sum_below, count_below}

-- the number of vertices of a set with a given priority
abbrev pub count_with : ParityGame → (ℕ → Bool) → ℕ → ℕ
count_with game set p = count_below (λ v. (priority_of game v == p) && set v) (vertex_count game)

-- The counts for the priority p keep the rule of counts (`KeepsRule`) on each edge that remains within the set, and are
-- the least counts that do. The counts are 0 at vertices outside the set and at vertices of greater priority. Each
-- count is at most the number of vertices of priority p in the set.
pub record AreLeastFor (game : ParityGame) (player : ℕ) (set : ℕ → Bool) (table : ℕ → Option ℕ) (p : ℕ)
    (count : ℕ → ℕ) : Type 0 where
  pub keep : KeepRuleWithin game player set table p count
  pub least : (other : ℕ → ℕ) → KeepRuleWithin game player set table p other → (v : ℕ) → count v ≤ other v
  pub outside : (v : ℕ) → ¬ IsTrue (set v) → count v ≡ 0
  pub above : (v : ℕ) → p < priority_of game v → count v ≡ 0
  pub bounded : (v : ℕ) → count v ≤ count_with game set p

-- the count at an index of a vertex's row
abbrev pub count_in : Option (List ℕ) → ℕ → ℕ
count_in None k = 0
count_in (Some row) k = slice_index row k

abbrev pub count_of : List (List ℕ) → ℕ → ℕ → ℕ
count_of rows v k = count_in (slice_get rows v) k

-- the number of counts in the row of a vertex
abbrev pub width_in : Option (List ℕ) → ℕ
width_in None = 0
width_in (Some row) = length row

abbrev pub width_of : List (List ℕ) → ℕ → ℕ
width_of rows v = width_in (slice_get rows v)

-- `count` rows of length `width`
pub record AreRows (rows : List (List ℕ)) (count width : ℕ) : Type 0 where
  pub each : length rows ≡ count
  pub wide : (v : ℕ) → v < count → width_of rows v ≡ width

-- `priorities` lists the priorities of the game by which the player loses, ascending; the row of each vertex has the
-- vertex's least count for each of these priorities
pub record AreRanks (game : ParityGame) (player : ℕ) (set : ℕ → Bool) (table : ℕ → Option ℕ) (priorities : List ℕ)
    (rows : List (List ℕ)) : Type 0 where
  pub listed : ListsPriorities game (other_player player) priorities
  pub shape : AreRows rows (vertex_count game) (length priorities)
  pub columns : (k : ℕ) → k < length priorities → AreLeastFor game player set table (slice_index priorities k)
      (λ v. count_of rows v k)

-- the sum of all counts in the rows
abbrev pub total_of : List (List ℕ) → ℕ → ℕ → ℕ
total_of rows count width = sum_below (λ k. sum_below (λ v. count_of rows v k) count) width

-- the number of nonzero counts in the rows
abbrev pub raised_of : List (List ℕ) → ℕ → ℕ → ℕ
raised_of rows count width = sum_below (λ k. count_below (λ v. nat_lt 0 (count_of rows v k)) count) width

-- an upper bound on how often counts are raised: the sum, over the priorities, of the size of the set times the number
-- of its vertices with that priority
abbrev pub most_raises : ParityGame → (ℕ → Bool) → List ℕ → ℕ
most_raises game set priorities =
    sum_below (λ k. count_below set (vertex_count game) * count_with game set (slice_index priorities k))
    (length priorities)

-- A cycle that the player loses, of edges that remain within the set: an edge leads from each vertex to the next, and
-- from the last to the first. The greatest priority on the cycle has the opponent's parity, so the player loses the
-- cycle.
pub record IsLostCycle (game : ParityGame) (player : ℕ) (set : ℕ → Bool) (table : ℕ → Option ℕ)
    (cycle : List ℕ) : Type 0 where
  pub some : 0 < length cycle
  pub vertices : (k : ℕ) → k < length cycle → slice_index cycle k < vertex_count game
  pub edges : (k : ℕ) → k + 1 < length cycle → RemainsWithin game player set table (slice_index cycle k)
      (slice_index cycle (k + 1))
  pub closes : RemainsWithin game player set table (slice_index cycle (length cycle - 1)) (slice_index cycle 0)
  pub lost : greatest (map (priority_of game) cycle) % 2 ≡ other_player player

-- if the fault reports a cycle, the player loses this cycle; the fault `OutOfMemory` guarantees nothing
abbrev pub IsRefusal : ParityGame → ℕ → (ℕ → Bool) → (ℕ → Option ℕ) → MeasureFault → Type 0
IsRefusal game player set table (BadCycle cycle) = IsLostCycle game player set table cycle.items
IsRefusal game player set table OutOfMemory = Unit {0}

-- the error is out of memory
abbrev pub IsOutOfMemory : MeasureFault → Type 0
IsOutOfMemory (BadCycle cycle) = ⊥
IsOutOfMemory OutOfMemory = Unit {0}
