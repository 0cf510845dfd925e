-- The edges that remain when a player moves by a table of moves, and the condition that a progress measure (the counts)
-- must meet on these edges. The list of all priorities of one parity that occur in a game.
use Rattle.std.specs.Prelude.{◌≡◌, ℕ, ◌%◌, ◌<◌, ◌≤◌, List, Option, Some, Bool, IsTrue}
use Rattle.std.specs.List.{All, Contains}
use Rattle.std.specs.List.Sorted.{IsStrictlyIncreasing}
use Rattle.ps_game.specs.Games.{ParityGame, vertex_count, owner_of, priority_of, HasEdge}

-- an edge remains for a player who moves by a table if the edge leaves a vertex of the other player, or is the table's
-- move
pub record RemainsFor (game : ParityGame) (player : ℕ) (table : ℕ → Option ℕ) (v w : ℕ) : Type 0 where
  pub edge : HasEdge game v w
  pub chosen : owner_of game v ≡ player → table v ≡ Some w

-- an edge that remains if the player moves by the table (`RemainsFor`), and that has both ends in the set
pub record RemainsWithin (game : ParityGame) (player : ℕ) (set : ℕ → Bool) (table : ℕ → Option ℕ) (v w : ℕ) : Type 0
  where
    pub from : IsTrue (set v)
    pub to : IsTrue (set w)
    pub remains : RemainsFor game player table v w

-- some vertex of the game has the priority p
abbrev pub HasPriority : ParityGame → ℕ → Type 0
HasPriority game p = (v : ℕ) × (v < vertex_count game) × (priority_of game v ≡ p)

-- the list has exactly the priorities of one parity that occur in the game, in ascending order
pub record ListsPriorities (game : ParityGame) (parity : ℕ) (list : List ℕ) : Type 0 where
  pub rising : IsStrictlyIncreasing list
  pub complete : (v : ℕ) → v < vertex_count game → priority_of game v % 2 ≡ parity → Contains list (priority_of game v)
  pub right_parity : All (λ p. p % 2 ≡ parity) list
  pub present : All (HasPriority game) list

-- the rule of counts: the condition that a progress measure (the counts for one priority) must meet on one edge. If
-- neither end of the edge has a priority above the given one, the count of the edge's target is at most the count of
-- its source. If the source has the given priority, and the target has at most this priority, the count of the target
-- is less than the count of the source
pub record KeepsRule (priority from_priority to_priority from_count to_count : ℕ) : Type 0 where
  pub never_rises : from_priority ≤ priority → to_priority ≤ priority → to_count ≤ from_count
  pub falls : from_priority ≡ priority → to_priority ≤ priority → to_count < from_count

-- the counts for a priority satisfy the rule `KeepsRule` on each remaining edge within the set
abbrev pub KeepRuleWithin : ParityGame → ℕ → (ℕ → Bool) → (ℕ → Option ℕ) → ℕ → (ℕ → ℕ) → Type 0
KeepRuleWithin game player set table priority count =
    (v w : ℕ) → RemainsWithin game player set table v w → KeepsRule priority (priority_of game v) (priority_of game w)
    (count v) (count w)
