-- The maximal number of pending recursive calls so far, while a game is being solved.
use Rattle.std.specs.Prelude.{◌≡◌, ℕ, ◌<◌, ◌≤◌, ◌⊎◌, List, Bool, false, IsTrue, slice_index}
use Rattle.ps_game.specs.Games.{ParityGame, vertex_count}
use Rattle.ps_zielonka.specs.declared.level.TheConstants.{UNPLACED}
use Rattle.ps_zielonka.specs.Depths.{is_vertex, HasPriorities, IsClosedToTops}

-- no iteration has begun: no call is pending, the current call is unsolved, and each vertex is `UNPLACED`
pub record IsFresh (game : ParityGame) (levels : List ℕ) (calls : ℕ) (solved : Bool) : Type 0 where
  pub none : calls ≡ 0
  pub unsolved : solved ≡ false
  pub unplaced : (v : ℕ) → v < vertex_count game → slice_index levels v ≡ UNPLACED

-- only the first call is pending, and the current call, which has the depth 1, still has to solve the vertex v
pub record IsSecondCall (levels : List ℕ) (calls : ℕ) (solved : Bool) (v : ℕ) : Type 0 where
  pub one : calls ≡ 1
  pub unsolved : solved ≡ false
  pub unplaced : slice_index levels v ≡ UNPLACED

pub record IsDepthSoFar (game : ParityGame) (levels : List ℕ) (calls : ℕ) (solved : Bool) (depth : ℕ) : Type 0 where
  pub most : HasPriorities game (is_vertex game) depth
  pub some : (v : ℕ) → v < vertex_count game → (1 ≤ depth) ⊎ IsFresh game levels calls solved
  pub two : (set : ℕ → Bool) → IsClosedToTops game set → (v : ℕ) → v < vertex_count game → ¬ IsTrue (set v) →
      (2 ≤ depth) ⊎ (IsFresh game levels calls solved ⊎ IsSecondCall levels calls solved v)
