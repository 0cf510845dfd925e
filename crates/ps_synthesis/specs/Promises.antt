-- What a report guarantees about the text from which it is made.
-- - `IsAcceptedText text file`: the text describes a file that has an automaton
-- - `SynthesisData`: a game, a certificate of the game, and a circuit
-- - `IsSynthesis May order text s`: s is the game of the text's automaton, with winning moves and the winner's circuit
-- - `KeepsPromise May order compact text report`: the report prints the game, winning moves and the circuit
use Rattle.std.specs.Prelude.{◌≡◌, ◌↔◌, ℕ, Bool, IsTrue, List, Ok}
use Rattle.ps_automaton.specs.Answers.{IsAdmitted}
use Rattle.ps_certificate.specs.Certificates.{CertificateData}
use Rattle.ps_certificate.specs.Regions.{BothHold, NoneWinsOutside}
use Rattle.ps_circuit.specs.Circuits.{CircuitData}
use Rattle.ps_game.specs.Games.{NamedGameData}
use Rattle.ps_hoa.specs.Files.{FileData}
use Rattle.ps_hoa.specs.Texts.{ReadsFile}
use Rattle.ps_machine.specs.FileGames.{IsGameOfFile}
use Rattle.ps_solver.specs.Solvers.{MayAnswer}
use Rattle.ps_solver.specs.Solving.{IsCertified, winner_at_start}
use Rattle.ps_machine.specs.declared.key.Order.{Order}
use Rattle.ps_traces.specs.Answers.{IsWitness}
use Rattle.ps_synthesis.specs.Printing.{PrintsGame, PrintsCertificate, PrintsCircuit}
use Rattle.ps_synthesis.specs.declared.report.Report.{Report}

pub record IsAcceptedText (text : List ℕ) (file : FileData) : Type 0 where
  pub reads : ReadsFile text (Ok file)
  pub admitted : IsAdmitted file

pub record SynthesisData : Type 0 where
  pub game : NamedGameData
  pub certificate : CertificateData
  pub circuit : CircuitData

-- The game is that of the text's automaton. The certificate divides the game's vertices into a region for each player,
-- who wins there by the certificate's moves. The circuit plays for the player who wins vertex 0.
pub record IsSynthesis (May : MayAnswer) (order : Order) (text : List ℕ) (s : SynthesisData) : Type 0 where
  pub file : FileData
  pub accepted : IsAcceptedText text file
  pub is_game : IsGameOfFile order file s.game
  -- the solver returned the certificate
  pub answered : May s.game (Ok s.certificate)
  pub certified : IsCertified s.game s.certificate
  -- A player who follows the certificate's moves from the player's own region wins every loop of every play: the loop's
  -- greatest priority is even for player 0, and odd for player 1. From outside the region, no strategy of the player
  -- wins.
  pub both_hold : BothHold s.game.game s.certificate
  pub none_wins_outside : NoneWinsOutside s.game.game s.certificate
  -- the circuit is a controller if player 0 wins vertex 0, and otherwise an environment
  pub answers : IsWitness order file (winner_at_start s.certificate) s.circuit

-- a report prints a game, a certificate and a circuit of the text, and states who wins
pub record KeepsPromise (May : MayAnswer) (order : Order) (compact : Bool) (text : List ℕ) (report : Report) : Type 0
  where
    pub printed : SynthesisData
    pub synthesis : IsSynthesis May order text printed
    pub realizable : IsTrue report.realizable ↔ (winner_at_start printed.certificate ≡ 0)
    pub game_text : PrintsGame report.game_text.items printed.game
    pub certificate_text : PrintsCertificate compact report.certificate_text.items printed.game printed.certificate
    pub circuit_text : PrintsCircuit report.circuit_text.items printed.circuit
