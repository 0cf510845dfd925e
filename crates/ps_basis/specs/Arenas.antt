-- The arena of an automaton's game: the game without the vertices of the second player whose letter is in no basis.
-- - `LeadsWithin bases board key next`: `next` has, in order, the keys of the successors of an arena's vertex
-- - `IsArenaOf board bases mover keys others arena`: `arena` is the arena of the game with the keys `keys`, for a basis
--   of each state, and `others` has the key of each of its vertices
-- - `AreSameKeys keys others kept`: `kept` has the game's vertex with the same key for each vertex of the arena
-- - `IsLiftOfArena mover keys others order game arena certificate lifted`: `lifted` is a valid certificate of the game,
--   which extends a certificate of the arena
use Rattle.std.specs.Prelude.{◌≡◌, ℕ, List, length, map, slice_get, slice_index_or, Option, Some}
use Rattle.std.specs.List.{Contains, range_with_len}
use Rattle.ps_game.specs.Games.{ParityGame}
use Rattle.ps_certificate.specs.Certificates.{CertificateData, Fits, IsValid}
use Rattle.ps_machine.specs.Boards.{Board, LeadsTo}
use Rattle.ps_machine.specs.Numbering.{IsGameByKeys, StandsAt}
use Rattle.ps_solver.specs.Solving.{winner_at_start}
use Rattle.ps_machine.specs.declared.key.Key.{Key}
use Rattle.ps_machine.specs.declared.key.Key.TheVariants.{First, Second}
use Rattle.ps_pruning.specs.Lifting.{Pruning, IsPruning, IsCovered, IsGuideBy, IsLift, HasEntryOf}
use Rattle.ps_basis.specs.Bases.{IsBasis}

abbrev pub LeadsWithin : (bases : ℕ → List ℕ) → Board → Key → List Key → Type 0
LeadsWithin bases board (First q p) next = next ≡ map (λ x. Second q x) (bases q)
LeadsWithin bases board (Second q x) next = LeadsTo board (Second q x) next

-- the arena has all vertices of the first player, and those of the second player whose letter is in a basis
pub record IsArenaOf (board : Board) (bases : ℕ → List ℕ) (mover : ℕ) (keys others : List Key) (arena : ParityGame) :
    Type 0 where
  pub by_keys : IsGameByKeys (LeadsWithin bases board) mover (First board.auto.start 0) others arena
  pub are_bases : (q p : ℕ) → Contains keys (First q p) → IsBasis board q (bases q)
  pub within : (key : Key) → Contains others key → Contains keys key
  pub firsts : (q p : ℕ) → Contains keys (First q p) → Contains others (First q p)
  pub seconds : (q x : ℕ) → Contains others (Second q x) → Contains (bases q) x

-- the vertex u of the arena and the vertex v of the game have the same key
pub record HaveSameKey (keys others : List Key) (u v : ℕ) : Type 0 where
  pub key : Key
  pub in_arena : StandsAt others u key
  pub in_game : StandsAt keys v key

pub record AreSameKeys (keys others : List Key) (kept : List ℕ) : Type 0 where
  pub count : length kept ≡ length others
  pub same : (u v : ℕ) → slice_get kept u ≡ Some v → HaveSameKey keys others u v

-- the arena as a pruned game, in which the vertices with the same keys are kept
abbrev pub pruning_to : (mover : ℕ) (game : ParityGame) (kept : List ℕ) (arena : ParityGame) → Pruning
pruning_to mover game kept arena = record { mover = mover; game = game; kept = kept; pruned = arena }

pub record IsArenaPruning (mover : ℕ) (keys others : List Key) (game arena : ParityGame) (kept : List ℕ) : Type 0 where
  pub same_keys : AreSameKeys keys others kept
  pub is_pruning : IsPruning (pruning_to mover game kept arena)
  pub is_covered : IsCovered (pruning_to mover game kept arena)

-- `order` lists, for each state, at least the vertices of the arena at which the second player moves in this state
abbrev pub AreOrders : (others : List Key) (order : ℕ → List ℕ) → Type 0
AreOrders others order = (u q x : ℕ) → StandsAt others u (Second q x) → Contains (order q) u

-- the vertices of the arena that may serve a vertex of the game, by the key of that vertex
abbrev pub candidates_at : (order : ℕ → List ℕ) (count : ℕ) → Key → List ℕ
candidates_at order count (First q p) = range_with_len 0 count
candidates_at order count (Second q x) = order q

abbrev pub candidates_of : (keys others : List Key) (order : ℕ → List ℕ) → ℕ → List ℕ
candidates_of keys others order v = candidates_at order (length others) (slice_index_or keys v (First 0 0))

-- `lifted` has the entry of the certificate at each vertex of the first player. Elsewhere it follows the first vertex
-- of its state that serves it
pub record IsLiftOfArena (mover : ℕ) (keys others : List Key) (order : ℕ → List ℕ) (game arena : ParityGame)
    (certificate lifted : CertificateData) : Type 0 where
  pub kept : List ℕ
  pub pruning : IsArenaPruning mover keys others game arena kept
  pub guide : ℕ → Option ℕ
  pub is_guide : IsGuideBy (pruning_to mover game kept arena) certificate (candidates_of keys others order) guide
  pub is_lift : IsLift (pruning_to mover game kept arena) certificate guide lifted
  pub fits : Fits game lifted
  pub valid : IsValid game lifted
  pub start : winner_at_start lifted ≡ winner_at_start certificate
  pub firsts : (u v q p : ℕ) → StandsAt others u (First q p) → StandsAt keys v (First q p) →
      HasEntryOf (pruning_to mover game kept arena) certificate lifted v u
