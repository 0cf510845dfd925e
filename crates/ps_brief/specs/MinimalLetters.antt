-- What it takes that no basis is given: a state with many minimal letters (`IsMinimalLetter`).
-- - `HasMinimalLetters board q n`: the state q has at least n of them
-- - `HasRichState setting listing n`: so has a state of the listing
-- - `IsRichGame order a n`: so has a state of the automaton's game, whichever numbers this gives its vertices
use Rattle.std.specs.Prelude.{◌≢◌, ℕ, ◌≤◌, List, length}
use Rattle.std.specs.List.{All, AllPairs, Contains}
use Rattle.ps_game.specs.Games.{ParityGame}
use Rattle.ps_automaton.specs.Automata.{AutomatonData}
use Rattle.ps_machine.specs.Boards.{Board, IsGameOf}
use Rattle.ps_machine.specs.BuiltBoards.{board_of}
use Rattle.ps_machine.specs.Keys.{mover_of}
use Rattle.ps_machine.specs.declared.key.Key.{Key}
use Rattle.ps_machine.specs.declared.key.Key.TheVariants.{First}
use Rattle.ps_machine.specs.declared.key.Order.{Order}
use Rattle.ps_basis.specs.Bases.{IsMinimalLetter}
use Rattle.ps_brief.specs.Listings.{listed_keys}
use Rattle.ps_brief.specs.Settings.{board_in}
use Rattle.ps_brief.specs.declared.listing.Listing.{Listing}
use Rattle.ps_brief.specs.declared.setting.Setting.{Setting}

pub record HasMinimalLetters (board : Board) (q n : ℕ) : Type 0 where
  pub letters : List ℕ
  pub count : n ≤ length letters
  pub minimal : All (IsMinimalLetter board q) letters
  pub different : AllPairs (λ x y. x ≢ y) letters

pub record HasRichState (setting : Setting) (listing : Listing) (n : ℕ) : Type 0 where
  pub state : ℕ
  pub priority : ℕ
  pub listed : Contains (listed_keys listing) (First state priority)
  pub many : HasMinimalLetters (board_in setting) state n

pub record IsRichGame (order : Order) (a : AutomatonData) (n : ℕ) : Type 0 where
  pub state : ℕ
  pub priority : ℕ
  pub in_game : (keys : List Key) (game : ParityGame) → IsGameOf (board_of order a) (mover_of order) keys game →
      Contains keys (First state priority)
  pub many : HasMinimalLetters (board_of order a) state n
