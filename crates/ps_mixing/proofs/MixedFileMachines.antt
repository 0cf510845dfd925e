-- The machine of a certificate for a mixed file, moved back, is the machine of the certificate for the file.
use Rattle.std.specs.Prelude.{◌≡◌, ℕ, length}
use Rattle.std.proofs.Common.{subst}
use Rattle.ps_certificate.specs.Certificates.{CertificateData}
use Rattle.ps_hoa.specs.Files.{FileData}
use Rattle.ps_game.specs.Games.{NamedGameData}
use Rattle.ps_machine.specs.Behaviours.{Behaviour}
use Rattle.ps_machine.specs.Boards.{Board, IsGameOf}
use Rattle.ps_machine.specs.Extracting.{IsMachineOf}
use Rattle.ps_machine.specs.FileGames.{IsGameOfFile, board_of_file}
use Rattle.ps_machine.specs.Keys.{mover_of}
use Rattle.ps_machine.specs.declared.key.Order.{Order}
use Rattle.ps_mixing.specs.MixedBoards.{mixed_board, mixed_keys, mixed_machine}
use Rattle.ps_mixing.specs.MixedFiles.{IsMixingOf, mixed_file}
use Rattle.ps_mixing.specs.Mixings.{Mixing, inverse}
use Rattle.ps_mixing.proofs.MixedFileGames.{auto_before, board_back, game_back, on_board}
use Rattle.ps_mixing.proofs.MixedLetters.{IsBoardMixing, unmixed}
use Rattle.ps_mixing.proofs.MixedMachines.{machine_moved}
use Rattle.ps_mixing.proofs.MovedPropositions.MovedLetters.{inverse_is}

module _ (order : Order) (file : FileData) (mixing : Mixing) (is : IsMixingOf file mixing) (game : NamedGameData)
    (of : IsGameOfFile order (mixed_file mixing file) game) where
  abbrev n : ℕ
  n = length file.names

  -- the board of the file, and the mixing that leads back to it
  abbrev pub board_before : Board
  board_before = board_of_file order file (auto_before order file mixing is of.auto)

  pub back_on : IsBoardMixing (mixed_board mixing board_before) (inverse mixing)
  back_on = inverse_is (on_board order file mixing is (auto_before order file mixing is of.auto))

  pub board_again : mixed_board (inverse mixing) (mixed_board mixing board_before) ≡ board_before
  board_again = unmixed board_before mixing (on_board order file mixing is (auto_before order file mixing is of.auto))

  pub machine_back : (certificate : CertificateData) (m : Behaviour) →
      IsMachineOf (board_of_file order (mixed_file mixing file) of.auto) (mover_of order) of.keys game.game certificate m →
      IsMachineOf board_before (mover_of order) (mixed_keys n (inverse mixing) of.keys) game.game certificate
      (mixed_machine n (inverse mixing) m)
  machine_back certificate m machine =
      subst (λ (b : Board). IsMachineOf b (mover_of order) (mixed_keys n (inverse mixing) of.keys) game.game certificate
      (mixed_machine n (inverse mixing) m)) board_again
      (machine_moved (mixed_board mixing board_before) (inverse mixing) back_on of.keys (mover_of order) game.game
      (subst (λ (b : Board). IsGameOf b (mover_of order) of.keys game.game)
      (board_back order file mixing is of.auto) of.is_game) certificate m
      (subst (λ (b : Board). IsMachineOf b (mover_of order) of.keys game.game certificate m)
      (board_back order file mixing is of.auto) machine))

  pub machine_of_file : (here : IsGameOfFile order file game) × ((certificate : CertificateData) (m : Behaviour) →
      IsMachineOf (board_of_file order (mixed_file mixing file) of.auto) (mover_of order) of.keys game.game certificate m →
      IsMachineOf (board_of_file order file here.auto) (mover_of order) here.keys game.game certificate
      (mixed_machine n (inverse mixing) m))
  unfolding game_back
  machine_of_file = (game_back order file mixing is game of, machine_back)
