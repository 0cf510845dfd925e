-- A synthesis problem: an automaton, the player who moves first, and the game that they define.
-- - `ProblemData`: a problem, with the key of each vertex of the game: the state and priority, or the state and letter,
--   for which the vertex stands
-- - `IsProblem p`: the problem's game is the game of its automaton, in its order of moves
-- - `IsProblemOf order text p`: the problem has the automaton and the game of the text, in the given order of moves
-- - `ReturnsOnly game certificate`: the possible answers of a solver that solves only this game, and always returns
--   this certificate for it
-- - `IsReportFault p certificate fault`: `fault` is a possible reason why no report is made for the problem from the
--   certificate that the solver returned
use Rattle.std.specs.Prelude.{◌≡◌, ℕ, ◌<◌, List, Ok}
use Rattle.ps_automaton.specs.Automata.{AutomatonData}
use Rattle.ps_certificate.specs.Certificates.{CertificateData}
use Rattle.ps_game.specs.Games.{NamedGameData, vertex_count}
use Rattle.ps_machine.specs.Boards.{IsGameOf}
use Rattle.ps_machine.specs.BuiltBoards.{board_of}
use Rattle.ps_machine.specs.FileGames.{IsGameOfFile}
use Rattle.ps_machine.specs.KeyNames.{AreNamed}
use Rattle.ps_machine.specs.Keys.{mover_of}
use Rattle.ps_solver.specs.Solving.{IsCertified}
use Rattle.ps_machine.specs.declared.key.Key.{Key}
use Rattle.ps_machine.specs.declared.key.Order.{Order}
use Rattle.ps_solver.specs.Solvers.{MayAnswer}
use Rattle.ps_synthesis.specs.Stages.{HasNoCircuit, IsAutomatonOf}
use Rattle.ps_synthesis.specs.declared.fault.SynthFault.{SynthFault}
use Rattle.ps_synthesis.specs.declared.fault.SynthFault.TheVariants.{NotCertified, CircuitTooLarge, OutOfMemory}

pub record ProblemData : Type 0 where
  pub order : Order
  pub automaton : AutomatonData
  pub keys : List Key
  pub game : NamedGameData

pub record IsProblem (p : ProblemData) : Type 0 where
  pub is_game : IsGameOf (board_of p.order p.automaton) (mover_of p.order) p.keys p.game.game
  pub are_named : AreNamed (board_of p.order p.automaton) p.keys p.game
  pub some : 0 < vertex_count p.game.game

pub record IsProblemOf (order : Order) (text : List ℕ) (p : ProblemData) : Type 0 where
  pub order_is : p.order ≡ order
  pub automaton_of : IsAutomatonOf text p.automaton
  pub game_of : IsGameOfFile order automaton_of.file p.game

abbrev pub ReturnsOnly : NamedGameData → CertificateData → MayAnswer
ReturnsOnly game certificate asked answer = (asked ≡ game) × (answer ≡ Ok certificate)

abbrev pub IsReportFault : ProblemData → CertificateData → SynthFault → Type 0
IsReportFault p certificate NotCertified = ¬ IsCertified p.game certificate
IsReportFault p certificate CircuitTooLarge =
    IsCertified p.game certificate × HasNoCircuit p.order p.automaton p.game.game certificate
IsReportFault p certificate OutOfMemory = IsCertified p.game certificate
IsReportFault p certificate fault = ⊥
