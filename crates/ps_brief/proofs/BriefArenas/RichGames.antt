-- A listed state with many minimal letters is a state of each game of the board.
use Rattle.std.specs.Prelude.{◌≡◌, ℕ, Option, Some, None, Result, Ok, Err, IfNone, IfOk}
use Rattle.std.proofs.Common.{subst}
use Rattle.ps_automaton.specs.Automata.{AutomatonData}
use Rattle.ps_diagram.specs.Table.{Table}
use Rattle.ps_machine.specs.Keys.{mover_of}
use Rattle.ps_machine.specs.declared.key.Order.{Order}
use Rattle.ps_basis.proofs.GameOrder.{game_in_order}
use Rattle.ps_basis.proofs.ListedOrder.{listed_in_order}
use Rattle.ps_basis.proofs.OneOrder.{numbered_alike}
use Rattle.ps_brief.specs.Listings.{IsListing, listed_keys}
use Rattle.ps_brief.specs.MinimalLetters.{HasRichState, IsRichGame}
use Rattle.ps_brief.specs.Settings.{board_in}
use Rattle.ps_brief.specs.declared.listing.Listing.{Listing}
use Rattle.ps_brief.specs.declared.setting.Setting.{Setting}

pub rich_game : (setting : Setting) {t : Table} (listing : Listing) → IsListing setting t listing → (n : ℕ) →
    HasRichState setting listing n → IsRichGame setting.order setting.automaton.now n
rich_game setting listing is n rich = record {
  state = rich.state;
  priority = rich.priority;
  in_game = λ keys game of. ((numbered_alike (board_in setting) keys (listed_keys listing)
      (game_in_order (board_in setting) (mover_of setting.order) keys game of)
      (listed_in_order (board_in setting) (listed_keys listing) is.listed)).keys rich.state rich.priority).1
      rich.listed;
  many = rich.many;
}

pub none_rich : (setting : Setting) {t : Table} (listing : Listing) → IsListing setting t listing → (n : ℕ)
    (order : Order) (a : AutomatonData) → setting.order ≡ order → setting.automaton.now ≡ a → {X E : Type 0}
    (result : Result (Option X) E) → IfOk result (λ found. IfNone found (HasRichState setting listing n)) →
    IfOk result (λ found. IfNone found (IsRichGame order a n))
none_rich setting listing is n order a same_order same (Err e) holds = tt
none_rich setting listing is n order a same_order same (Ok (Some m)) holds = tt
none_rich setting listing is n order a same_order same (Ok None) rich =
    subst (λ (b : AutomatonData). IsRichGame order b n) same
    (subst (λ (o : Order). IsRichGame o setting.automaton.now n) same_order (rich_game setting listing is n rich))
