-- A certificate gives the winner at most one circuit: its machine is unique, and so is the circuit of that machine.
use Rattle.std.proofs.Common.{rules, ◌≡◌}
use Rattle.ps_aiger.specs.Encoded.{Encodes, IsTidy}
use Rattle.ps_aiger.specs.Wires.{IsOutOfLiterals, IsWired}
use Rattle.ps_certificate.specs.Certificates.{CertificateData}
use Rattle.ps_circuit.specs.Circuits.{CircuitData}
use Rattle.ps_game.specs.Games.{NamedGameData}
use Rattle.ps_hoa.specs.Files.{FileData}
use Rattle.ps_machine.specs.Behaviours.{Behaviour, IsMachine}
use Rattle.ps_machine.specs.Behaving.{BehavesAs}
use Rattle.ps_machine.specs.Extracting.{HasPropositions, IsMachineOf}
use Rattle.ps_machine.specs.FileGames.{IsGameOfFile, board_of_file}
use Rattle.ps_machine.specs.Keys.{mover_of}
use Rattle.ps_machine.specs.declared.key.Order.{Order}
use Rattle.ps_synthesis.specs.Reports.{IsWinners, IsWinnersCircuit}

-- laws of other crates that the lemmas of this file take as arguments
abbrev pub OneMachine : Type 0
OneMachine =
    (order : Order) (file : FileData) (game : NamedGameData) (first second : IsGameOfFile order file game)
    (certificate : CertificateData) (m o : Behaviour) → IsMachine m → IsMachine o →
    HasPropositions file.names (board_of_file order file first.auto) m →
    HasPropositions file.names (board_of_file order file second.auto) o →
    IsMachineOf (board_of_file order file first.auto) (mover_of order) first.keys game.game certificate m →
    IsMachineOf (board_of_file order file second.auto) (mover_of order) second.keys game.game certificate o →
    BehavesAs m o

abbrev pub OneCircuit : Type 0
OneCircuit = (b o : Behaviour) (c d : CircuitData) → IsMachine b → BehavesAs b o → Encodes b c → IsTidy c →
    IsWired b c → Encodes o d → IsTidy d → IsWired o d → c ≡ d

abbrev pub HasLiterals : Type 0
HasLiterals = (b o : Behaviour) (c : CircuitData) → IsMachine b → BehavesAs b o → Encodes b c → IsTidy c → IsWired b c →
    ¬ IsOutOfLiterals o

module _ (machines : OneMachine) where
  alike : (order : Order) (file : FileData) (game : NamedGameData) (first second : IsGameOfFile order file game)
      (certificate : CertificateData) (m o : Behaviour) →
      IsWinners order file game first certificate m → IsWinners order file game second certificate o → BehavesAs m o
  alike order file game first second certificate m o a b = search rules

  pub one_circuit : OneCircuit → (order : Order) (file : FileData) (game : NamedGameData)
      (first second : IsGameOfFile order file game) (certificate : CertificateData) (c d : CircuitData) →
      IsWinnersCircuit order file game first certificate c → IsWinnersCircuit order file game second certificate d →
      c ≡ d
  one_circuit circuits order file game first second certificate c d a b = search (rules, alike)

  pub circuit_or_none : HasLiterals → (order : Order) (file : FileData) (game : NamedGameData)
      (first second : IsGameOfFile order file game) (certificate : CertificateData) (c : CircuitData) (m : Behaviour) →
      IsWinnersCircuit order file game first certificate c → IsWinners order file game second certificate m →
      ¬ IsOutOfLiterals m
  circuit_or_none literals order file game first second certificate c m a b = search (rules, alike)
