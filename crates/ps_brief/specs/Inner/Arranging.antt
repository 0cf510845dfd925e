-- An arena in the making. (For private functions.)
-- - `AreArenaKeys listing bases made n`: `made` has the keys of the listing, and behind them the keys of the bases of
--   the states in the first n of these keys
-- - `HasSuccessors board bases keys key numbers`: an arena's vertex with this key has these successors
-- - `AreArenaVertices board bases mover keys game n`: the vertices of the first n keys
use Rattle.std.specs.Prelude.{◌≡◌, ◌≢◌, ℕ, ◌<◌, List, length, map, nat_eq, Some, IsSome}
use Rattle.std.specs.List.{AllPairs, AllZip, Contains, range_with_len}
use Rattle.indexmap.specs.IndexMap.{get}
use Rattle.ps_game.specs.Games.{ParityGame, vertex_count}
use Rattle.ps_machine.specs.Boards.{Board}
use Rattle.ps_machine.specs.Numbering.{IsVertexOf, StandsAt}
use Rattle.ps_machine.specs.declared.key.Key.{Key}
use Rattle.ps_machine.specs.declared.key.Key.TheVariants.{First, Second}
use Rattle.ps_basis.specs.Arenas.{LeadsWithin}
use Rattle.ps_brief.specs.ArenaGames.{letters_at}
use Rattle.ps_brief.specs.Listings.{listed_keys}
use Rattle.ps_brief.specs.declared.arena.ArenaKeys.{ArenaKeys}
use Rattle.ps_brief.specs.declared.bases.Bases.{Bases}
use Rattle.ps_brief.specs.declared.listing.Listing.{Listing}

-- the vertices from `first` on have the keys of the state q with these letters
abbrev pub StandFrom : List Key → (q : ℕ) → List ℕ → (first : ℕ) → Type 0
StandFrom keys q letters first = AllZip (StandsAt keys) (range_with_len first (length letters))
    (map (λ x. Second q x) letters)

-- a letter of a basis that was added
pub record IsAdded (bases : Bases) (made : ArenaKeys) (q x : ℕ) : Type 0 where
  pub known : IsSome (get nat_eq made.firsts q)
  pub listed : Contains (letters_at bases q) x

pub record AreArenaKeys (listing : Listing) (bases : Bases) (made : ArenaKeys) (n : ℕ) : Type 0 where
  pub front : (v : ℕ) (key : Key) → StandsAt (listed_keys listing) v key → StandsAt made.list.items v key
  pub firsts : (q p : ℕ) → Contains made.list.items (First q p) → Contains (listed_keys listing) (First q p)
  pub seconds : (q x : ℕ) → Contains made.list.items (Second q x) → IsAdded bases made q x
  pub different : AllPairs (λ x y. x ≢ y) made.list.items
  pub stand : (q first : ℕ) → get nat_eq made.firsts q ≡ Some first →
      StandFrom made.list.items q (letters_at bases q) first
  pub visited : (k q p : ℕ) → k < n → StandsAt (listed_keys listing) k (First q p) →
      IsSome (get nat_eq made.firsts q)

pub record HasSuccessors (board : Board) (bases : Bases) (keys : List Key) (key : Key) (numbers : List ℕ) : Type 0
  where
    pub next : List Key
    pub leads : LeadsWithin (letters_at bases) board key next
    pub stand : AllZip (StandsAt keys) numbers next

pub record AreArenaVertices (board : Board) (bases : Bases) (mover : ℕ) (keys : List Key) (game : ParityGame)
    (n : ℕ) : Type 0 where
  pub count : vertex_count game ≡ n
  pub each : (v : ℕ) → v < n → IsVertexOf (LeadsWithin (letters_at bases) board) mover keys game v
