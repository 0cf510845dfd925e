-- What is known about a report: what it guarantees, and how its circuit is built.
-- - `IsWinners order file game is_game certificate m`: m is the machine that the certificate gives the winner
-- - `IsWinnersCircuit order file game is_game certificate circuit`: `circuit` is the circuit of the winner's machine
-- - `IsWinnersSynthesis May order text s`: s has a valid certificate of the text's game, and the winner's circuit
-- - `IsReport May order compact text report`: the report guarantees what it states, and its circuit is the winner's
use Rattle.std.specs.Prelude.{ℕ, Bool, List}
use Rattle.ps_aiger.specs.Encoded.{Encodes, IsTidy}
use Rattle.ps_aiger.specs.Wires.{IsWired}
use Rattle.ps_certificate.specs.Certificates.{CertificateData}
use Rattle.ps_circuit.specs.Circuits.{CircuitData}
use Rattle.ps_game.specs.Games.{NamedGameData}
use Rattle.ps_hoa.specs.Files.{FileData}
use Rattle.ps_machine.specs.Behaviours.{Behaviour, IsMachine}
use Rattle.ps_machine.specs.Extracting.{HasPropositions, IsMachineOf}
use Rattle.ps_machine.specs.FileGames.{IsGameOfFile, board_of_file}
use Rattle.ps_machine.specs.Keys.{mover_of}
use Rattle.ps_machine.specs.declared.key.Order.{Order}
use Rattle.ps_solver.specs.Solvers.{MayAnswer}
use Rattle.ps_synthesis.specs.Promises.{IsSynthesis, KeepsPromise, SynthesisData}
use Rattle.ps_synthesis.specs.declared.report.Report.{Report}

pub record IsWinners (order : Order) (file : FileData) (game : NamedGameData) (is_game : IsGameOfFile order file game)
    (certificate : CertificateData) (m : Behaviour) : Type 0 where
  pub is_machine : IsMachine m
  pub propositions : HasPropositions file.names (board_of_file order file is_game.auto) m
  pub machine_of : IsMachineOf (board_of_file order file is_game.auto) (mover_of order) is_game.keys
      game.game certificate m

pub record IsWinnersCircuit (order : Order) (file : FileData) (game : NamedGameData)
    (is_game : IsGameOfFile order file game) (certificate : CertificateData) (circuit : CircuitData) : Type 0 where
  pub machine : Behaviour
  pub winners : IsWinners order file game is_game certificate machine
  pub encodes : Encodes machine circuit
  pub tidy : IsTidy circuit
  pub wired : IsWired machine circuit

pub record IsWinnersSynthesis (May : MayAnswer) (order : Order) (text : List ℕ) (s : SynthesisData) : Type 0 where
  pub synthesis : IsSynthesis May order text s
  pub circuit : IsWinnersCircuit order synthesis.file s.game synthesis.is_game s.certificate s.circuit

pub record IsReport (May : MayAnswer) (order : Order) (compact : Bool) (text : List ℕ) (report : Report) : Type 0 where
  pub promise : KeepsPromise May order compact text report
  pub circuit : IsWinnersCircuit order promise.synthesis.file promise.printed.game promise.synthesis.is_game
      promise.printed.certificate promise.printed.circuit
