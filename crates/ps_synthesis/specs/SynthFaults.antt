-- Why a text gets no report. For each fault that synthesis returns, these definitions state the reason.
-- - `HasNoAutomaton text fault`: the text describes a file that has no automaton, for the reason that `fault` states
-- - `OfGame order text P`: an accepted text has a game for which P holds
-- - `IsLost May game ids`: the solver reported a cycle of the game's vertices, and these vertices have the given ids
-- - `IsNotCertified May game`: the solver returned a certificate that does not fit or is not valid
-- - `IsTooLarge May order file game`: the circuit of a valid certificate's machine needs too many variables
-- - `IsSynthFault May order text fault`: the reason for which synthesis returns this fault; none is stated for
--   `OutOfMemory`, which a table, a game or a certificate with about 2^32 entries returns, too
-- - `IsSureFault fault`: a fault that synthesis may return for an accepted text if the solver is sure (all its
--   certificates are valid)
-- - `IsReportOrFault May order compact text answer`: what synthesis may return for an accepted text if the solver is
--   sure (all its certificates are valid)
use Rattle.std.specs.Prelude.{◌≡◌, ◌≢◌, ⊤, ℕ, ◌<◌, Bool, List, length, map, slice_index, Option, None, Some, Result, Ok}
use Rattle.std.specs.Prelude.{Err}
use Rattle.std.specs.List.{All}
use Rattle.ps_aiger.specs.Wires.{IsOutOfLiterals}
use Rattle.ps_automaton.specs.Answers.{IsRefused}
use Rattle.ps_automaton.specs.declared.fault.AutomatonFault.{AutomatonFault}
use Rattle.ps_automaton.specs.declared.fault.AutomatonFault.TheVariants as automaton
use Rattle.ps_certificate.specs.Certificates.{CertificateData}
use Rattle.ps_game.specs.Games.{NamedGameData, vertex_count}
use Rattle.ps_hoa.specs.Files.{FileData}
use Rattle.ps_hoa.specs.Texts.{ReadsFile}
use Rattle.ps_machine.specs.FileGames.{IsGameOfFile}
use Rattle.ps_machine.specs.Behaviours.{Behaviour}
use Rattle.ps_solver.specs.Solving.{IsCertified}
use Rattle.ps_solver.specs.declared.fault.SolveFault.{SolveFault}
use Rattle.ps_solver.specs.declared.fault.SolveFault.TheVariants as solver
use Rattle.ps_machine.specs.declared.key.Order.{Order}
use Rattle.ps_synthesis.specs.Reports.{IsReport, IsWinners}
use Rattle.ps_solver.specs.Solvers.{MayAnswer}
use Rattle.ps_synthesis.specs.Promises.{IsAcceptedText}
use Rattle.ps_synthesis.specs.declared.fault.SynthFault.{SynthFault}
use Rattle.ps_synthesis.specs.declared.fault.SynthFault.TheVariants.{Text, Automaton, BadCycle, Certificate}
use Rattle.ps_synthesis.specs.declared.fault.SynthFault.TheVariants.{NotCertified, CircuitTooLarge, OutOfMemory}
use Rattle.ps_synthesis.specs.declared.report.Report.{Report}

pub record HasNoAutomaton (text : List ℕ) (fault : AutomatonFault) : Type 0 where
  pub file : FileData
  pub reads : ReadsFile text (Ok file)
  pub cause : fault ≢ automaton.OutOfMemory
  pub refused : IsRefused file fault

pub record OfGame (order : Order) (text : List ℕ) (P : FileData → NamedGameData → Type 0) : Type 0 where
  pub file : FileData
  pub accepted : IsAcceptedText text file
  pub game : NamedGameData
  pub is_game : IsGameOfFile order file game
  pub holds : P file game

-- the cycle that a solver's fault reports, or None for other faults
abbrev pub cycle_of : SolveFault → Option (List ℕ)
cycle_of (solver.BadCycle cycle) = Some cycle.items
cycle_of fault = None

pub record IsLost (May : MayAnswer) (game : NamedGameData) (ids : List ℕ) : Type 0 where
  pub fault : SolveFault
  pub answered : May game (Err fault)
  pub cycle : List ℕ
  pub told : cycle_of fault ≡ Some cycle
  pub some : 0 < length cycle
  pub vertices : All (λ v. v < vertex_count game.game) cycle
  pub ids_are : ids ≡ map (λ v. slice_index game.ids v) cycle

pub record IsNotCertified (May : MayAnswer) (game : NamedGameData) : Type 0 where
  pub certificate : CertificateData
  pub answered : May game (Ok certificate)
  pub wrong : ¬ IsCertified game certificate

pub record IsTooLarge (May : MayAnswer) (order : Order) (file : FileData) (game : NamedGameData) : Type 0 where
  pub certificate : CertificateData
  pub answered : May game (Ok certificate)
  pub certified : IsCertified game certificate
  pub is_game : IsGameOfFile order file game
  pub machine : Behaviour
  pub winners : IsWinners order file game is_game certificate machine
  pub out_of_literals : IsOutOfLiterals machine

abbrev pub IsSynthFault : MayAnswer → Order → List ℕ → SynthFault → Type 0
IsSynthFault May order text (Text cause offset) = ReadsFile text (Err (record { cause = cause; offset = offset }))
IsSynthFault May order text (Automaton fault) = HasNoAutomaton text fault
IsSynthFault May order text (BadCycle ids) = OfGame order text (λ file game. IsLost May game ids.items)
IsSynthFault May order text (Certificate cause offset) =
    OfGame order text (λ file game. May game (Err (solver.Text cause offset)))
IsSynthFault May order text NotCertified = OfGame order text (λ file game. IsNotCertified May game)
IsSynthFault May order text CircuitTooLarge = OfGame order text (IsTooLarge May order)
IsSynthFault May order text OutOfMemory = Unit {0}

abbrev pub IsSureFault : SynthFault → Type 0
IsSureFault CircuitTooLarge = ⊤
IsSureFault OutOfMemory = ⊤
IsSureFault fault = ⊥

-- the result for an accepted text if all certificates of the solver are valid: a report, or the fault `CircuitTooLarge`
-- or `OutOfMemory`
pub data IsReportOrFault (May : MayAnswer) (order : Order) (compact : Bool) (text : List ℕ)
    (answer : Result Report SynthFault) : Type 0 where
  Reported : (report : Report) → answer ≡ Ok report → IsReport May order compact text report →
      IsReportOrFault May order compact text answer
  TooLarge : answer ≡ Err CircuitTooLarge → OfGame order text (IsTooLarge May order) →
      IsReportOrFault May order compact text answer
  LacksMemory : answer ≡ Err OutOfMemory → IsReportOrFault May order compact text answer
