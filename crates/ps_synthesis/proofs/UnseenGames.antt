-- An automaton has a game, which need not be made. A machine that is made without it is the machine of a certificate of
-- this game. So the machine's circuit is the winner's for the file, and if the machine has none, the fault is right.
use Rattle.std.proofs.Common.{arith, ◌≡◌, ◌↔◌, ℕ, ◌^◌, ◌<◌, ◌≤◌, List, length, refl, subst, sym}
use Rattle.std.specs.Prelude.{IsTrue}
use Rattle.std.specs.List.{range_with_len}
use Rattle.ps_aiger.specs.Encoded.{Encodes, IsTidy}
use Rattle.ps_aiger.specs.Wires.{IsOutOfLiterals, IsWired}
use Rattle.ps_automaton.specs.Answers.{IsAdmitted}
use Rattle.ps_automaton.specs.Automata.{AutomatonData, IsBuiltFrom, auto_of}
use Rattle.ps_automaton.specs.Chains.{Chain}
use Rattle.ps_brief.specs.Briefs.{IsBriefMachine, IsWinnersMachine}
use Rattle.ps_circuit.specs.declared.encode_fault.EncodeFault.{EncodeFault}
use Rattle.ps_circuit.specs.declared.encode_fault.EncodeFault.TheVariants as encoding
use Rattle.ps_game.specs.Games.{NamedGameData}
use Rattle.ps_hoa.specs.Files.{FileData}
use Rattle.ps_machine.specs.Behaviours.{Behaviour, IsMachine}
use Rattle.ps_machine.specs.Boards.{Board, IsGameOf}
use Rattle.ps_machine.specs.BuiltBoards.{board_of}
use Rattle.ps_machine.specs.Extracting.{HasPropositions, IsMachineOf}
use Rattle.ps_machine.specs.FileGames.{IsGameOfFile, board_of_file}
use Rattle.ps_machine.specs.KeyNames.{AreNamed, key_names}
use Rattle.ps_machine.specs.Keys.{mover_of}
use Rattle.ps_solver.specs.Solving.{AnswersLeast, IsCertified}
use Rattle.ps_machine.specs.declared.key.Key.{Key}
use Rattle.ps_machine.specs.declared.key.Order.{Order}
use Rattle.ps_machine.proofs.AutomatonGames.GameKeys.GameThere.{board_game_there}
use Rattle.ps_synthesis.specs.Reports.{IsWinners}
use Rattle.ps_synthesis.specs.ShortFiles.{IsFaultOfFile, IsShortOfFile}
use Rattle.ps_synthesis.specs.Stages.{of_circuit}
use Rattle.ps_synthesis.specs.declared.short.Short.{Short}

module _ (order : Order) (file : FileData) (chain : Chain) (a : AutomatonData) (built : IsBuiltFrom file chain a) where
  abbrev board : Board
  board = board_of order a

  -- the automaton's game, with the names of its vertices
  record HasGame : Type 0 where
    keys : List Key
    game : NamedGameData
    is_game : IsGameOf board (mover_of order) keys game.game
    are_named : AreNamed board keys game

  board_is : board ≡ board_of_file order file (auto_of a)
  board_is = grind arith

  start : board.auto.start ≤ board.states
  start = subst (λ (b : Board). b.auto.start ≤ b.states) (sym board_is) built.auto.start_within

  within : (q letter : ℕ) → q ≤ board.states → letter < 2 ^ board.propositions →
      board.auto.next q letter ≤ board.states
  within = subst (λ (b : Board). (q letter : ℕ) → q ≤ b.states → letter < 2 ^ b.propositions →
      b.auto.next q letter ≤ b.states) (sym board_is) built.auto.within

  game_there : HasGame
  game_there = let made = board_game_there board (mover_of order) start within in
      record {
        keys = made.0;
        game = record { game = made.1; ids = range_with_len 0 (length made.0); names = key_names board made.0 };
        is_game = made.2;
        are_named = record { ids = refl; names = refl };
      }

  abbrev game : NamedGameData
  game = game_there.game

  abbrev of_file : IsGameOfFile order file game
  of_file = record {
    chain = chain;
    is_chain = built.is_chain;
    auto = auto_of a;
    is_auto = built.auto;
    keys = game_there.keys;
    is_game = subst (λ (b : Board). IsGameOf b (mover_of order) game_there.keys game.game) board_is game_there.is_game;
    are_named = subst (λ (b : Board). AreNamed b game_there.keys game) board_is game_there.are_named;
  }

  module _ (b : Behaviour) (is_machine : IsMachine b) (brief : IsBriefMachine order a b) where
    abbrev found : IsWinnersMachine order a game_there.keys game.game b
    found = brief.machine_of game_there.keys game.game game_there.is_game

    certified : IsCertified game found.certificate
    certified = record { fits = found.fits; valid = found.valid }

    winners : IsWinners order file game of_file found.certificate b
    winners = record {
      is_machine = is_machine;
      propositions = subst (λ (to : Board). HasPropositions file.names to b) board_is
          (subst (λ (names : List (List ℕ)). HasPropositions names board b) built.names brief.propositions);
      machine_of = subst (λ (to : Board). IsMachineOf to (mover_of order) game_there.keys game.game found.certificate
          b) board_is found.machine_of;
    }

    pub short_is : IsAdmitted file → (short : Short) → (IsTrue short.realizable ↔ (b.player ≡ 0)) →
        Encodes b short.circuit → IsTidy short.circuit → IsWired b short.circuit →
        IsShortOfFile AnswersLeast order file short
    short_is admitted short realizable encodes tidy wired = record {
      admitted = admitted;
      game = game;
      is_game = of_file;
      certificate = found.certificate;
      answered = (certified, found.least);
      certified = certified;
      realizable = subst (λ (n : ℕ). IsTrue short.realizable ↔ (n ≡ 0)) (sym found.winner) realizable;
      circuit = record {
        machine = b;
        winners = winners;
        encodes = encodes;
        tidy = tidy;
        wired = wired;
      };
    }

    pub short_cause : IsAdmitted file → (given : EncodeFault) →
        (given ≡ encoding.CircuitTooLarge → IsOutOfLiterals b) →
        IsFaultOfFile AnswersLeast order file (of_circuit given)
    short_cause admitted encoding.CircuitTooLarge large = (
      admitted,
      game,
      record {
        certificate = found.certificate;
        answered = (certified, found.least);
        certified = certified;
        is_game = of_file;
        machine = b;
        winners = winners;
        out_of_literals = large refl;
      },
    )
    short_cause admitted encoding.OutOfMemory large = tt
