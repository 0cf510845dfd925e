-- The play from which a machine is drawn: an arena with a certificate, and the listing of the first player's keys.
-- - `order_by keys arena q`: at the state q, the second player's moves are tried in the order of the arena's successors
-- - `play_in setting listing arena others certificate`: the play
-- - `IsCertifiedArena setting arena others certificate`, `BeginsWith others listing`: what a machine can be drawn from
use Rattle.std.specs.Prelude.{ℕ, ◌+◌, cond, List, [], ◌∷◌, nat_eq}
use Rattle.std.specs.List.{range_with_len}
use Rattle.ps_certificate.specs.Certificates.{CertificateData, Fits, IsValid}
use Rattle.ps_game.specs.Games.{ParityGame, successors_of, vertex_count}
use Rattle.ps_machine.specs.Boards.{IsGameOf}
use Rattle.ps_machine.specs.Keys.{mover_of}
use Rattle.ps_machine.specs.Numbering.{StandsAt}
use Rattle.ps_machine.specs.declared.key.Key.{Key}
use Rattle.ps_machine.specs.declared.key.Key.TheVariants.{First, Second}
use Rattle.ps_basis.specs.Arenas.{IsArenaOf}
use Rattle.ps_basis.specs.Memories.{Play}
use Rattle.ps_brief.specs.Listings.{listed_keys}
use Rattle.ps_brief.specs.Settings.{board_in}
use Rattle.ps_brief.specs.declared.listing.Listing.{Listing}
use Rattle.ps_brief.specs.declared.setting.Setting.{Setting}

-- the successors of the first vertex with the state q, or all vertices if there is none; the list has the keys of the
-- vertices from v on
abbrev pub order_from : ParityGame → ℕ → List Key → ℕ → List ℕ
order_from arena v [] q = range_with_len 0 (vertex_count arena)
order_from arena v (First r p ∷ keys) q = cond (nat_eq q r) (successors_of arena v) (order_from arena (v + 1) keys q)
order_from arena v (Second r x ∷ keys) q = order_from arena (v + 1) keys q

abbrev pub order_by : List Key → ParityGame → ℕ → List ℕ
order_by keys arena q = order_from arena 0 keys q

abbrev pub play_in : Setting → Listing → ParityGame → List Key → CertificateData → Play
play_in setting listing arena others certificate =
    record {
      board = board_in setting;
      mover = mover_of setting.order;
      others = others;
      certificate = certificate;
      order = order_by (listed_keys listing) arena;
      keys = listed_keys listing;
    }

-- the arena is that of a game of the board, `others` has its keys, and the certificate is a valid one of the arena
pub record IsCertifiedArena (setting : Setting) (arena : ParityGame) (others : List Key) (certificate : CertificateData)
    :
    Type 0 where
  pub bases : ℕ → List ℕ
  pub keys : List Key
  pub game : ParityGame
  pub is_game : IsGameOf (board_in setting) (mover_of setting.order) keys game
  pub is_arena : IsArenaOf (board_in setting) bases (mover_of setting.order) keys others arena
  pub fits : Fits arena certificate
  pub valid : IsValid arena certificate

-- the arena's first vertices have the keys of the listing, in their order
abbrev pub BeginsWith : List Key → Listing → Type 0
BeginsWith others listing = (v : ℕ) (key : Key) → StandsAt (listed_keys listing) v key → StandsAt others v key
