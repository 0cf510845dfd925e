-- Bases for the states of a listing, and the arena that is built from them.
-- - `letters_at bases q`: the letters that are stored for the state q
-- - `AreBases setting listing bases`: they are a basis of each state of the listing, and no other state has letters
-- - `IsArenaFor setting bases arena`: whatever numbers a game of the board gives its vertices, this is its arena for
--   these bases
use Rattle.std.specs.Prelude.{ℕ, List, [], nat_eq, Option, None, Some}
use Rattle.std.specs.List.{Contains}
use Rattle.indexmap.specs.IndexMap.{get}
use Rattle.ps_game.specs.Games.{ParityGame}
use Rattle.ps_machine.specs.Boards.{IsGameOf}
use Rattle.ps_machine.specs.Keys.{mover_of}
use Rattle.ps_machine.specs.declared.key.Key.{Key}
use Rattle.ps_machine.specs.declared.key.Key.TheVariants.{First}
use Rattle.ps_basis.specs.Arenas.{IsArenaOf}
use Rattle.ps_basis.specs.Bases.{IsBasis}
use Rattle.ps_brief.specs.Listings.{listed_keys}
use Rattle.ps_brief.specs.Settings.{board_in}
use Rattle.ps_brief.specs.declared.arena.ArenaGame.{ArenaGame}
use Rattle.ps_brief.specs.declared.bases.Bases.{Bases}
use Rattle.ps_brief.specs.declared.bases.Basis.{Basis}
use Rattle.ps_brief.specs.declared.listing.Listing.{Listing}
use Rattle.ps_brief.specs.declared.setting.Setting.{Setting}

abbrev pub letters_or_none : Option Basis → List ℕ
letters_or_none None = []
letters_or_none (Some basis) = basis.letters.items

abbrev pub letters_at : Bases → ℕ → List ℕ
letters_at bases q = letters_or_none (get nat_eq bases.of q)

pub record AreBases (setting : Setting) (listing : Listing) (bases : Bases) : Type 0 where
  pub each : (q p : ℕ) → Contains (listed_keys listing) (First q p) →
      IsBasis (board_in setting) q (letters_at bases q)
  pub listed : (q x : ℕ) → Contains (letters_at bases q) x → (p : ℕ) × Contains (listed_keys listing) (First q p)

abbrev pub IsArenaFor : Setting → Bases → ArenaGame → Type 0
IsArenaFor setting bases arena = (keys : List Key) (game : ParityGame) →
    IsGameOf (board_in setting) (mover_of setting.order) keys game →
    IsArenaOf (board_in setting) (letters_at bases) (mover_of setting.order) keys arena.keys.items arena.game
