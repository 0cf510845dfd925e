-- Attractors: the vertices of a subgame from which a player can force every play to a target. Sets of vertices are
-- Boolean functions, and a table maps each vertex to a vertex or to None.
use Rattle.std.specs.Prelude.{◌≡◌, ◌≢◌, ℕ, ◌<◌, Option, IsSomeAnd, Bool, IsTrue}
use Rattle.ps_game.specs.Games.{ParityGame, owner_of}
use Rattle.ps_game.specs.Subgames.{IsWithin, LeadsInto}

-- the set contains the target. The set contains each vertex of the subgame that the player owns and that has an edge
-- within the subgame into the set. The set contains each vertex of the subgame that the other player owns and whose
-- edges within the subgame all lead into the set
pub record IsClosedUnderAttraction (game : ParityGame) (subgame : ℕ → Bool) (player : ℕ) (target set : ℕ → Bool) : Type
    0 where
  pub holds : IsWithin target set
  pub own : (v w : ℕ) → IsTrue (subgame v) → owner_of game v ≡ player → LeadsInto game subgame v w →
      IsTrue (set w) → IsTrue (set v)
  pub other : (v : ℕ) → IsTrue (subgame v) → owner_of game v ≢ player →
      ((w : ℕ) → LeadsInto game subgame v w → IsTrue (set w)) → IsTrue (set v)

-- an edge within the subgame leads from v to w, and w is in the set and has a smaller rank than v
pub record LeadsDown (game : ParityGame) (subgame set : ℕ → Bool) (rank : ℕ → ℕ) (v w : ℕ) : Type 0 where
  pub leads : LeadsInto game subgame v w
  pub inside : IsTrue (set w)
  pub falls : rank w < rank v

-- for each vertex v that is in the set and not in the target: if the player owns v, the table has a move at v, and this
-- move leads down (`LeadsDown`). If the other player owns v, all edges from v within the subgame lead down
pub record Falls (game : ParityGame) (subgame : ℕ → Bool) (player : ℕ) (target set : ℕ → Bool) (table : ℕ → Option ℕ)
    (rank : ℕ → ℕ) : Type 0 where
  pub own : (v : ℕ) → IsTrue (set v) → ¬ IsTrue (target v) → owner_of game v ≡ player →
      IsSomeAnd (table v) (LeadsDown game subgame set rank v)
  pub other : (v w : ℕ) → IsTrue (set v) → ¬ IsTrue (target v) → owner_of game v ≢ player → LeadsInto game subgame v w →
      LeadsDown game subgame set rank v w

-- the set is contained in every set that is closed under attraction to the target
abbrev pub IsLeastClosed : ParityGame → (ℕ → Bool) → ℕ → (ℕ → Bool) → (ℕ → Bool) → Type 0
IsLeastClosed game subgame player target set =
    (closed : ℕ → Bool) → IsClosedUnderAttraction game subgame player target closed → IsWithin set closed
