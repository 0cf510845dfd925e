-- The games of a mixed file are the games of the file.
-- - `board_there`: the mixed file's board is the file's board, mixed
-- - `game_there`, `game_back`: the game of one file is the game of the other
use Rattle.std.specs.Prelude.{◌≡◌, ℕ, not, List, length}
use Rattle.std.proofs.Common.{sym, ap, subst, ◌∙◌}
use Rattle.std.proofs.Math.Path.{fun_ext}
use Rattle.ps_hoa.specs.Files.{FileData, is_among}
use Rattle.ps_automaton.specs.Autos.{Auto}
use Rattle.ps_game.specs.Games.{NamedGameData}
use Rattle.ps_machine.specs.Boards.{Board, IsGameOf, is_first_of}
use Rattle.ps_machine.specs.FileGames.{IsGameOfFile, board_of_file}
use Rattle.ps_machine.specs.KeyNames.{AreNamed}
use Rattle.ps_machine.specs.Keys.{mover_of}
use Rattle.ps_machine.specs.declared.key.Key.{Key}
use Rattle.ps_machine.specs.declared.key.Order.{Order}
use Rattle.ps_machine.specs.declared.key.Order.TheVariants.{Mealy, Moore}
use Rattle.ps_mixing.specs.MixedAutos.{mixed_auto}
use Rattle.ps_mixing.specs.MixedBoards.{mixed_board, mixed_keys}
use Rattle.ps_mixing.specs.MixedFiles.{IsMixingOf, mixed_file}
use Rattle.ps_mixing.specs.Mixings.{Mixing, inverse}
use Rattle.ps_mixing.proofs.MixedAutos.{auto_back, auto_there}
use Rattle.ps_mixing.proofs.MixedGames.{game_moved}
use Rattle.ps_mixing.proofs.MixedLetters.{IsBoardMixing, auto_unmixed, unmixed}
use Rattle.ps_mixing.proofs.MixedNames.{names_moved}
use Rattle.ps_mixing.proofs.MixedSteps.{names_count}
use Rattle.ps_mixing.proofs.MovedPropositions.MovedLetters.{inverse_is}
use Rattle.ps_mixing.proofs.MovedPropositions.MovedLists.{among_moved, not_same}

-- ## Owners

-- the players' propositions, by the order of moves
alike_owners : (order : Order) (controllable : List ℕ) (p q : ℕ) →
    is_first_of order controllable p ≡ is_first_of order controllable q → is_among p controllable ≡ is_among q controllable
alike_owners Mealy controllable p q same = not_same (is_among p controllable) (is_among q controllable) same
alike_owners Moore controllable p q same = same

module _ (order : Order) (file : FileData) (mixing : Mixing) (is : IsMixingOf file mixing) where
  abbrev n : ℕ
  n = length file.names

  abbrev mixed : FileData
  mixed = mixed_file mixing file

  pub on_board : (auto : Auto) → IsBoardMixing (board_of_file order file auto) mixing
  on_board auto = record {
    back = is.back;
    forth = is.forth;
    beyond = is.beyond;
    order = λ p q less same. is.order p q less (alike_owners order file.controllable p q same);
  }

  first_moved : (p : ℕ) → is_first_of order mixed.controllable p ≡ is_first_of order file.controllable (mixing.from p)
  first_moved p = by_order order
    where
      by_order : (o : Order) → is_first_of o mixed.controllable p ≡ is_first_of o file.controllable (mixing.from p)
      by_order Mealy = ap not (among_moved is file.controllable p)
      by_order Moore = among_moved is file.controllable p

  pub board_there : (auto : Auto) →
      board_of_file order mixed (mixed_auto n mixing auto) ≡ mixed_board mixing (board_of_file order file auto)
  board_there auto = λ i. record {
    auto = mixed_auto n mixing auto;
    states = file.states;
    propositions = names_count mixing file.names i;
    is_first = firsts i;
  }
    where
      firsts : is_first_of order mixed.controllable ≡ (λ p. is_first_of order file.controllable (mixing.from p))
      firsts = fun_ext first_moved

  -- the automaton of the file, for one of the mixed file
  abbrev pub auto_before : Auto → Auto
  auto_before auto = mixed_auto n (inverse mixing) auto

  pub board_back : (auto : Auto) →
      board_of_file order mixed auto ≡ mixed_board mixing (board_of_file order file (auto_before auto))
  board_back auto = ap (board_of_file order mixed) (sym (auto_unmixed (inverse_is is) auto)) ∙ board_there (auto_before auto)

  -- ## Games

  pub game_there : (game : NamedGameData) → IsGameOfFile order file game → IsGameOfFile order mixed game
  game_there game of = record {
    chain = of.chain;
    is_chain = of.is_chain;
    auto = mixed_auto n mixing of.auto;
    is_auto = auto_there file mixing is of.chain of.auto of.is_auto;
    keys = mixed_keys n mixing of.keys;
    is_game = subst (λ (b : Board). IsGameOf b (mover_of order) (mixed_keys n mixing of.keys) game.game)
        (sym (board_there of.auto)) (game_moved (board_of_file order file of.auto) mixing (on_board of.auto)
        (mover_of order) of.keys game.game of.is_game);
    are_named = subst (λ (b : Board). AreNamed b (mixed_keys n mixing of.keys) game) (sym (board_there of.auto))
        (names_moved (board_of_file order file of.auto) mixing (on_board of.auto) of.keys game of.are_named);
  }

  module _ (game : NamedGameData) (of : IsGameOfFile order mixed game) where
    abbrev board : Board
    board = board_of_file order file (auto_before of.auto)

    abbrev keys : List Key
    keys = mixed_keys n (inverse mixing) of.keys

    pub back : IsBoardMixing board mixing
    back = on_board (auto_before of.auto)

    unfoldable pub game_back : IsGameOfFile order file game
    game_back = record {
      chain = of.chain;
      is_chain = of.is_chain;
      auto = auto_before of.auto;
      is_auto = auto_back file mixing is of.chain of.auto of.is_auto;
      keys = keys;
      is_game = subst (λ (b : Board). IsGameOf b (mover_of order) keys game.game) (unmixed board mixing back)
          (game_moved (mixed_board mixing board) (inverse mixing) (inverse_is back) (mover_of order) of.keys game.game
          (subst (λ (b : Board). IsGameOf b (mover_of order) of.keys game.game) (board_back of.auto) of.is_game));
      are_named = subst (λ (b : Board). AreNamed b keys game) (unmixed board mixing back)
          (names_moved (mixed_board mixing board) (inverse mixing) (inverse_is back) of.keys game
          (subst (λ (b : Board). AreNamed b of.keys game) (board_back of.auto) of.are_named));
    }
