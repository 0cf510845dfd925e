-- A certificate gives the winner a machine, and the machine has a circuit unless this would need too many variables.
use Rattle.std.proofs.Common.{rules, ◌≡◌, ◌<◌, ◌≤◌, ◌⊎◌, ℕ, List, length, refl}
use Rattle.ps_aiger.specs.Encoded.{Encodes, IsTidy}
use Rattle.ps_aiger.specs.Wires.{IsOutOfLiterals, IsWired}
use Rattle.ps_certificate.specs.Certificates.{CertificateData, Fits, IsValid}
use Rattle.ps_circuit.specs.Circuits.{CircuitData}
use Rattle.ps_game.specs.Games.{NamedGameData, ParityGame}
use Rattle.ps_hoa.specs.Files.{FileData}
use Rattle.ps_hoa.specs.Sound.{AreNames, IsSoundFile}
use Rattle.ps_machine.specs.Behaviours.{Behaviour, IsMachine}
use Rattle.ps_machine.specs.Boards.{Board, IsGameOf}
use Rattle.ps_machine.specs.Extracting.{HasPropositions, IsMachineOf}
use Rattle.ps_machine.specs.FileGames.{IsGameOfFile, board_of_file}
use Rattle.ps_machine.specs.Keys.{mover_of}
use Rattle.ps_solver.specs.Solving.{IsCertified}
use Rattle.ps_machine.specs.declared.key.Key.{Key}
use Rattle.ps_machine.specs.declared.key.Order.{Order}
use Rattle.ps_machine.proofs.AutomatonGames.Movers.{small_mover}
use Rattle.ps_synthesis.specs.Reports.{IsWinners, IsWinnersCircuit}

-- laws of other crates that a lemma of this file takes as arguments
abbrev pub MachineThere : Type 0
MachineThere =
    (names : List (List ℕ)) (board : Board) (mover : ℕ) (keys : List Key) (game : ParityGame)
    (certificate : CertificateData) → length names ≤ 64 → AreNames names →
    length names ≡ board.propositions → mover < 2 →
    IsGameOf board mover keys game → Fits game certificate → IsValid game certificate →
    (m : Behaviour) × IsMachine m × HasPropositions names board m × IsMachineOf board mover keys game certificate m

abbrev pub CircuitThere : Type 0
CircuitThere = (b : Behaviour) → IsMachine b →
    IsOutOfLiterals b ⊎ ((c : CircuitData) × Encodes b c × IsTidy c × IsWired b c)

pub circuit_or_out : MachineThere → CircuitThere → (order : Order) (file : FileData) (game : NamedGameData)
    (is_game : IsGameOfFile order file game) (certificate : CertificateData) → IsSoundFile file →
    IsCertified game certificate →
    ((m : Behaviour) × IsWinners order file game is_game certificate m × IsOutOfLiterals m) ⊎
    ((c : CircuitData) × IsWinnersCircuit order file game is_game certificate c)
circuit_or_out machines circuits order file game is_game certificate sound certified =
    let found = machines file.names (board_of_file order file is_game.auto) (mover_of order) is_game.keys game.game
    certificate sound.few_names sound.names refl (small_mover order) is_game.is_game certified.fits certified.valid in
    search rules
