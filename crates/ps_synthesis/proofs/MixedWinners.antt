-- The winner's circuit of a mixed file is the winner's circuit of the file, and if it needs too many variables, so does
-- the file's.
use Rattle.std.specs.Prelude.{◌≡◌, ℕ, ◌<◌, List, length, map}
use Rattle.std.specs.List.{AllPairs}
use Rattle.std.proofs.Common.{refl, ap, subst, sym, ◌∙◌}
use Rattle.ps_aiger.specs.Encoded.{Encodes, IsTidy}
use Rattle.ps_aiger.specs.Wires.{IsOutOfLiterals, IsWired}
use Rattle.ps_certificate.specs.Certificates.{CertificateData}
use Rattle.ps_circuit.specs.Circuits.{CircuitData}
use Rattle.ps_hoa.specs.Files.{FileData}
use Rattle.ps_hoa.specs.Sound.{AreNames, IsSoundFile}
use Rattle.ps_game.specs.Games.{NamedGameData}
use Rattle.ps_machine.specs.Behaviours.{Behaviour}
use Rattle.ps_machine.specs.Boards.{Board}
use Rattle.ps_machine.specs.Extracting.{HasPropositions}
use Rattle.ps_machine.specs.FileGames.{IsGameOfFile}
use Rattle.ps_solver.specs.Solvers.{MayAnswer}
use Rattle.ps_machine.specs.declared.key.Order.{Order}
use Rattle.ps_synthesis.specs.Reports.{IsWinners, IsWinnersCircuit}
use Rattle.ps_synthesis.specs.SynthFaults.{IsTooLarge}
use Rattle.ps_mixing.specs.MixedBoards.{mixed_board, mixed_machine}
use Rattle.ps_mixing.specs.MixedFiles.{IsMixingOf, mixed_file, mixed_names}
use Rattle.ps_mixing.specs.Mixings.{Mixing, inverse}
use Rattle.ps_mixing.proofs.MixedCircuits.{encodes_moved, out_of_literals_moved, wired_moved}
use Rattle.ps_mixing.proofs.MixedFileGames.{board_back, game_back}
use Rattle.ps_mixing.proofs.MixedFileMachines.{back_on, board_again, board_before, machine_back}
use Rattle.ps_mixing.proofs.MixedMachineParts.{inputs_there, machine_there, many, names_unmixed, propositions_there}

module _ (order : Order) (file : FileData) (mixing : Mixing) (is : IsMixingOf file mixing) (sound : IsSoundFile file)
    (game : NamedGameData) (of : IsGameOfFile order (mixed_file mixing file) game) (certificate : CertificateData) where
  abbrev n : ℕ
  n = length file.names

  abbrev board : Board
  board = mixed_board mixing (board_before order file mixing is game of)

  names_again : mixed_names (inverse mixing) (mixed_names mixing file.names) ≡ file.names
  names_again = names_unmixed is file.names refl

  module _ (m : Behaviour) (winners : IsWinners order (mixed_file mixing file) game of certificate m) where
    has : HasPropositions (mixed_names mixing file.names) board m
    has = subst (λ (b : Board). HasPropositions (mixed_names mixing file.names) b m)
        (board_back order file mixing is of.auto) winners.propositions

    are_names : AreNames (mixed_names (inverse mixing) m.names)
    are_names = subst AreNames (sym (ap (mixed_names (inverse mixing)) has.names_are ∙ names_again)) sound.names

    winners_back : IsWinners order file game (game_back order file mixing is game of) certificate
        (mixed_machine n (inverse mixing) m)
    unfolding game_back
    winners_back = record {
      is_machine = machine_there board (inverse mixing) (back_on order file mixing is game of) m winners.is_machine
          (mixed_names mixing file.names) has are_names;
      propositions = subst (λ (names : List (List ℕ)). HasPropositions names
          (board_before order file mixing is game of) (mixed_machine n (inverse mixing) m)) names_again
          (subst (λ (b : Board). HasPropositions (mixed_names (inverse mixing) (mixed_names mixing file.names)) b
          (mixed_machine n (inverse mixing) m)) (board_again order file mixing is game of)
          (propositions_there board (inverse mixing) (back_on order file mixing is game of) m winners.is_machine
          (mixed_names mixing file.names) has));
      machine_of = machine_back order file mixing is game of certificate m winners.machine_of;
    }

    length_is : length m.names ≡ n
    length_is = many board (inverse mixing) (back_on order file mixing is game of) m winners.is_machine
        (mixed_names mixing file.names) has

    rise : AllPairs (λ p q. p < q) (map mixing.from m.inputs)
    rise = inputs_there board (inverse mixing) (back_on order file mixing is game of) m winners.is_machine
        (mixed_names mixing file.names) has

    out_of_literals_back : IsOutOfLiterals m → IsOutOfLiterals (mixed_machine n (inverse mixing) m)
    out_of_literals_back out = out_of_literals_moved (back_on order file mixing is game of) m length_is
        winners.is_machine.inputs_rise rise out

    circuit_of : (circuit : CircuitData) → Encodes m circuit → IsTidy circuit → IsWired m circuit →
        IsWinnersCircuit order file game (game_back order file mixing is game of) certificate circuit
    circuit_of circuit encodes tidy wired = record {
      machine = mixed_machine n (inverse mixing) m;
      winners = winners_back;
      encodes = encodes_moved (back_on order file mixing is game of) m length_is winners.is_machine.inputs_rise rise
          circuit encodes;
      tidy = tidy;
      wired = wired_moved (back_on order file mixing is game of) m length_is winners.is_machine.inputs_rise rise circuit
          wired;
    }

  pub circuit_back : (circuit : CircuitData) →
      IsWinnersCircuit order (mixed_file mixing file) game of certificate circuit →
      (here : IsGameOfFile order file game) × IsWinnersCircuit order file game here certificate circuit
  circuit_back circuit is_circuit = (
    game_back order file mixing is game of,
    circuit_of is_circuit.machine is_circuit.winners circuit is_circuit.encodes is_circuit.tidy is_circuit.wired,
  )

pub too_large_back : (May : MayAnswer) (order : Order) (file : FileData) (mixing : Mixing) → IsMixingOf file mixing →
    IsSoundFile file → (game : NamedGameData) → IsTooLarge May order (mixed_file mixing file) game →
    IsTooLarge May order file game
too_large_back May order file mixing is sound game large = record {
  certificate = large.certificate;
  answered = large.answered;
  certified = large.certified;
  is_game = game_back order file mixing is game large.is_game;
  machine = mixed_machine (length file.names) (inverse mixing) large.machine;
  winners = winners_back order file mixing is sound game large.is_game large.certificate large.machine large.winners;
  out_of_literals = out_of_literals_back order file mixing is sound game large.is_game large.certificate large.machine
      large.winners large.out_of_literals;
}
