-- A machine that is drawn by the rounds of an arena is the machine of the automaton's game.
-- - `some_game`: the automaton has a game
-- - `both_ok`: what two clauses say of a result
-- - `certified_there`: an arena of the board, with a valid certificate, is a certified arena
-- - `brief_is`: the machine by rounds is the machine of a certificate with the least counts
use Rattle.std.specs.Prelude.{ℕ, ◌<◌, ◌≤◌, IfOk, List, length, Option, Result, Ok, Err}
use Rattle.std.specs.Option.{unwrap_or}
use Rattle.std.proofs.Common.{sym, subst, ap, arith}
use Rattle.ps_certificate.specs.Certificates.{CertificateData, Fits as FitsGame, IsValid}
use Rattle.ps_certificate.proofs.FlawsAndValidity.SuccessorEdges.{some_of}
use Rattle.ps_diagram.specs.Table.{Table, leaf_of}
use Rattle.ps_game.specs.Games.{IsGame, ParityGame}
use Rattle.ps_automaton.specs.Automata.{AutomatonData, IsWhole, node_of, pair_of, step_of}
use Rattle.ps_machine.specs.Behaviours.{Behaviour}
use Rattle.ps_machine.specs.Boards.{Board, IsGameOf}
use Rattle.ps_machine.specs.Extracting.{HasPropositions, IsMachineOf}
use Rattle.ps_machine.specs.Keys.{mover_of}
use Rattle.ps_machine.specs.declared.key.Key.{Key}
use Rattle.ps_machine.proofs.AutomatonGames.GameKeys.GameSound.{board_game_is_game}
use Rattle.ps_machine.proofs.AutomatonGames.GameKeys.GameThere.{board_game_there}
use Rattle.ps_machine.proofs.AutomatonGames.Movers.{small_mover}
use Rattle.ps_basis.specs.Arenas.{AreOrders, IsArenaOf}
use Rattle.ps_basis.specs.Counterparts.{IsLeastCounterpart}
use Rattle.ps_basis.specs.Memories.{IsMachineByRounds}
use Rattle.ps_basis.proofs.ArenaCovers.{lift_of_arena}
use Rattle.ps_basis.proofs.ListedOrder.{listed_in_order}
use Rattle.ps_basis.proofs.MachineAlong.{machine_along}
use Rattle.ps_basis.proofs.MachineByRounds.{machine_by_rounds}
use Rattle.ps_brief.specs.Briefs.{IsArenaOfBoard, IsBriefMachine, IsWinnersMachine}
use Rattle.ps_brief.specs.Drawing.{IsCertifiedArena, order_by, play_in}
use Rattle.ps_brief.specs.Listings.{IsListing, listed_keys}
use Rattle.ps_brief.specs.Settings.{board_in}
use Rattle.ps_brief.specs.declared.listing.Listing.{Listing}
use Rattle.ps_brief.specs.declared.setting.Setting.{Setting}

-- a letter leads from a state to a state or to the sink
next_within : (a : AutomatonData) → IsWhole a → (q letter : ℕ) → q ≤ a.states → (step_of a q letter).state ≤ a.states
next_within a whole q letter below =
    let (leaf, at, within) = some_of (leaf_of a.store (node_of a q) letter) (λ k. k < length a.steps)
    (whole.leaves q letter below) in
    subst (λ (k : ℕ). (pair_of a k).state ≤ a.states)
    (sym (ap (λ (o : Option ℕ). unwrap_or o (length a.steps)) at)) (whole.targets leaf within)

pub some_game : (setting : Setting) → IsWhole setting.automaton.now → (keys : List Key) × (game : ParityGame) ×
    IsGameOf (board_in setting) (mover_of setting.order) keys game
some_game setting whole = board_game_there (board_in setting) (mover_of setting.order) (omega (arith, whole.start))
    (λ q letter below within. next_within setting.automaton.now whole q letter below)

pub both_ok : {X E : Type 0} (r : Result X E) (P Q R : X → Type 0) → ((x : X) → P x → Q x → R x) → IfOk r P →
    IfOk r Q → IfOk r R
both_ok (Ok x) P Q R both one other = both x one other
both_ok (Err e) P Q R both one other = tt

-- the law `least_counts_are_there`
abbrev pub LeastCountsThere : Type 0
LeastCountsThere = (game : ParityGame) (certificate : CertificateData) → IsGame game → FitsGame game certificate →
    IsValid game certificate → (least : CertificateData) × IsLeastCounterpart game certificate least

module _ (setting : Setting) (arena : ParityGame) (others : List Key) (certificate : CertificateData)
    (of : IsArenaOfBoard setting others arena) (fits : FitsGame arena certificate) (valid : IsValid arena certificate)
  where
    abbrev board : Board
    board = board_in setting

    abbrev mover : ℕ
    mover = mover_of setting.order

    pub certified_there : IsWhole setting.automaton.now → IsCertifiedArena setting arena others certificate
    certified_there whole =
        let (keys, game, is_game) = some_game setting whole in
        record {
          bases = of.bases;
          keys = keys;
          game = game;
          is_game = is_game;
          is_arena = of.is_arena keys game is_game;
          fits = fits;
          valid = valid;
        }

    module _ (least_there : LeastCountsThere) (listing : Listing) {t : Table} (is : IsListing setting t listing)
        (orders : AreOrders others (order_by (listed_keys listing) arena)) (m : Behaviour)
        (by_rounds : IsMachineByRounds (play_in setting listing arena others certificate) m) where
      drawn : (keys : List Key) (game : ParityGame) → IsGameOf board mover keys game →
          IsWinnersMachine setting.order setting.automaton.now keys game m
      drawn keys game is_game =
          let small = small_mover setting.order in
          let is_arena : IsArenaOf board of.bases mover keys others arena = of.is_arena keys game is_game in
          let (lifted, lift) = lift_of_arena board of.bases mover keys others game arena small is_game is_arena
          certificate fits valid (order_by (listed_keys listing) arena) orders in
          let machine : IsMachineOf board mover keys game lifted m = machine_by_rounds of.bases keys game
          arena lifted (play_in setting listing arena others certificate) small is_game is_arena fits valid lift
          (listed_in_order board (listed_keys listing) is.listed) m by_rounds in
          let (least, counterpart) =
          least_there game lifted (board_game_is_game board mover keys game small is_game) lift.fits lift.valid in
          let again : IsMachineOf board mover keys game least m =
          machine_along board mover keys game is_game lifted least m counterpart.same machine in
          record {
            certificate = least;
            fits = counterpart.fits;
            valid = counterpart.valid;
            least = counterpart.least;
            winner = sym again.player;
            machine_of = again;
          }

      pub brief_is : HasPropositions setting.automaton.now.names board m →
          IsBriefMachine setting.order setting.automaton.now m
      brief_is propositions = record { propositions = propositions; machine_of = drawn }
