-- The winner and the winner's circuit of a file, and why they are not made.
-- - `IsShortOfFile May order file short`: `short` has the winner of the file's game and the circuit of its machine, by a
--   certificate that the solver may give
-- - `IsBegun May order file begun`: `begun` has the winner and the circuit, or the file's automaton
-- - `HoldsAutomaton begun`: it has the automaton
-- - `IsFaultOfFile May order file fault`: the file has no automaton for the reason that `fault` states, or the circuit
--   of such a machine needs too many variables
use Rattle.std.specs.Prelude.{◌≡◌, ◌≢◌, ◌↔◌, IsTrue, Ok}
use Rattle.ps_automaton.specs.Answers.{IsAdmitted, IsRefused}
use Rattle.ps_automaton.specs.Automata.{IsBuiltFrom}
use Rattle.ps_automaton.specs.Chains.{Chain}
use Rattle.ps_automaton.specs.declared.fault.AutomatonFault.TheVariants as automaton
use Rattle.ps_certificate.specs.Certificates.{CertificateData}
use Rattle.ps_game.specs.Games.{NamedGameData}
use Rattle.ps_hoa.specs.Files.{FileData}
use Rattle.ps_machine.specs.FileGames.{IsGameOfFile}
use Rattle.ps_solver.specs.Solvers.{MayAnswer}
use Rattle.ps_solver.specs.Solving.{IsCertified, winner_at_start}
use Rattle.ps_machine.specs.declared.key.Order.{Order}
use Rattle.ps_synthesis.specs.Reports.{IsWinnersCircuit}
use Rattle.ps_synthesis.specs.SynthFaults.{IsTooLarge}
use Rattle.ps_synthesis.specs.declared.fault.SynthFault.{SynthFault}
use Rattle.ps_synthesis.specs.declared.fault.SynthFault.TheVariants.{Automaton, CircuitTooLarge, OutOfMemory}
use Rattle.ps_synthesis.specs.declared.short.Begun.{Begun}
use Rattle.ps_synthesis.specs.declared.short.Begun.TheVariants as begun
use Rattle.ps_synthesis.specs.declared.short.Short.{Short}

-- the game and the certificate exist, but need not have been made
pub record IsShortOfFile (May : MayAnswer) (order : Order) (file : FileData) (short : Short) : Type 0 where
  pub admitted : IsAdmitted file
  pub game : NamedGameData
  pub is_game : IsGameOfFile order file game
  pub certificate : CertificateData
  pub answered : May game (Ok certificate)
  pub certified : IsCertified game certificate
  pub realizable : IsTrue short.realizable ↔ (winner_at_start certificate ≡ 0)
  pub circuit : IsWinnersCircuit order file game is_game certificate short.circuit

abbrev pub IsBegun : MayAnswer → Order → FileData → Begun → Type 0
IsBegun May order file (begun.Short short) = IsShortOfFile May order file short
IsBegun May order file (begun.Automaton automaton) =
    IsAdmitted file × ((chain : Chain) × IsBuiltFrom file chain automaton)

-- the automaton was built, and the game is to be
abbrev pub HoldsAutomaton : Begun → Type 0
HoldsAutomaton (begun.Short short) = ⊥
HoldsAutomaton (begun.Automaton automaton) = Unit {0}

abbrev pub IsFaultOfFile : MayAnswer → Order → FileData → SynthFault → Type 0
IsFaultOfFile May order file (Automaton fault) = (fault ≢ automaton.OutOfMemory) × IsRefused file fault
IsFaultOfFile May order file CircuitTooLarge =
    IsAdmitted file × (game : NamedGameData) × IsTooLarge May order file game
IsFaultOfFile May order file OutOfMemory = Unit {0}
IsFaultOfFile May order file fault = ⊥
