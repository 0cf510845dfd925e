-- The results of the stages of synthesis: an automaton, a certificate, a circuit.
-- - `IsAutomatonOf text a`: the text is accepted, and a is the automaton of the text's file
-- - `IsTextFault text fault`: the fault states why the text has no automaton
-- - `IsSolverFault May game fault`: the fault states why the solver's answer is not a valid certificate
-- - `IsFaultFor game given fault`: the solver's fault `given` becomes the fault `fault` of synthesis; if memory runs
--   out for the ids of a cycle, `fault` is `OutOfMemory`
-- - `IsCircuitOf order a game certificate circuit`: `circuit` is the circuit of the machine that the certificate gives
--   the winner
-- - `HasNoCircuit order a game certificate`: the circuit of the certificate's machine needs too many variables
-- - `IsCircuitFault order a game certificate fault`: the fault states why there is no circuit
-- - `of_text`, `of_automaton`, `of_circuit`: these functions turn the faults of lower crates into faults of synthesis
use Rattle.std.specs.Prelude.{◌≡◌, ℕ, List, Err, map, slice_index}
use Rattle.ps_aiger.specs.Wires.{IsOutOfLiterals, IsWired}
use Rattle.ps_circuit.specs.Circuits.{CircuitData}
use Rattle.ps_aiger.specs.Encoded.{Encodes, IsTidy}
use Rattle.ps_circuit.specs.declared.encode_fault.EncodeFault.{EncodeFault}
use Rattle.ps_circuit.specs.declared.encode_fault.EncodeFault.TheVariants as circuit
use Rattle.ps_automaton.specs.Automata.{AutomatonData, IsBuiltFrom}
use Rattle.ps_automaton.specs.Chains.{Chain}
use Rattle.ps_automaton.specs.declared.fault.AutomatonFault.{AutomatonFault}
use Rattle.ps_automaton.specs.declared.fault.AutomatonFault.TheVariants as automaton
use Rattle.ps_certificate.specs.Certificates.{CertificateData}
use Rattle.ps_game.specs.Games.{NamedGameData, ParityGame}
use Rattle.ps_hoa.specs.Causes.{HoaFault}
use Rattle.ps_hoa.specs.Files.{FileData}
use Rattle.ps_hoa.specs.Texts.{ReadsFile}
use Rattle.ps_machine.specs.Boards.{IsGameOf}
use Rattle.ps_machine.specs.BuiltBoards.{board_of}
use Rattle.ps_machine.specs.Extracting.{HasPropositions, IsMachineOf}
use Rattle.ps_machine.specs.Keys.{mover_of}
use Rattle.ps_machine.specs.Behaviours.{Behaviour, IsMachine}
use Rattle.ps_solver.specs.declared.fault.SolveFault.{SolveFault}
use Rattle.ps_solver.specs.declared.fault.SolveFault.TheVariants as solver
use Rattle.ps_machine.specs.declared.key.Key.{Key}
use Rattle.ps_machine.specs.declared.key.Order.{Order}
use Rattle.ps_text.specs.declared.faults.Fault.TheVariants as hoa
use Rattle.ps_solver.specs.Solvers.{MayAnswer}
use Rattle.ps_synthesis.specs.Promises.{IsAcceptedText}
use Rattle.ps_synthesis.specs.SynthFaults.{HasNoAutomaton, IsLost, IsNotCertified}
use Rattle.ps_synthesis.specs.declared.fault.SynthFault.{SynthFault}
use Rattle.ps_synthesis.specs.declared.fault.SynthFault.TheVariants.{Text, Automaton, BadCycle, Certificate}
use Rattle.ps_synthesis.specs.declared.fault.SynthFault.TheVariants.{NotCertified, CircuitTooLarge, OutOfMemory}

pub record IsAutomatonOf (text : List ℕ) (a : AutomatonData) : Type 0 where
  pub file : FileData
  pub accepted : IsAcceptedText text file
  pub chain : Chain
  pub built : IsBuiltFrom file chain a

abbrev pub IsTextFault : List ℕ → SynthFault → Type 0
IsTextFault text (Text cause offset) = ReadsFile text (Err (record { cause = cause; offset = offset }))
IsTextFault text (Automaton fault) = HasNoAutomaton text fault
IsTextFault text OutOfMemory = Unit {0}
IsTextFault text fault = ⊥

abbrev pub IsSolverFault : MayAnswer → NamedGameData → SynthFault → Type 0
IsSolverFault May game (BadCycle ids) = IsLost May game ids.items
IsSolverFault May game (Certificate cause offset) = May game (Err (solver.Text cause offset))
IsSolverFault May game NotCertified = IsNotCertified May game
IsSolverFault May game OutOfMemory = Unit {0}
IsSolverFault May game fault = ⊥

abbrev pub IsFaultFor : NamedGameData → SolveFault → SynthFault → Type 0
IsFaultFor game (solver.BadCycle cycle) (BadCycle ids) = ids.items ≡ map (λ v. slice_index game.ids v) cycle.items
IsFaultFor game (solver.Text cause offset) fault = fault ≡ Certificate cause offset
IsFaultFor game given fault = fault ≡ OutOfMemory

-- m is the machine of the player who wins vertex 0, made from a certificate of the automaton's game
pub record IsExtracted (order : Order) (a : AutomatonData) (game : ParityGame) (certificate : CertificateData)
    (m : Behaviour) : Type 0 where
  pub is_machine : IsMachine m
  pub propositions : HasPropositions a.names (board_of order a) m
  pub machine_of : (keys : List Key) → IsGameOf (board_of order a) (mover_of order) keys game →
      IsMachineOf (board_of order a) (mover_of order) keys game certificate m

pub record HasNoCircuit (order : Order) (a : AutomatonData) (game : ParityGame) (certificate : CertificateData) : Type 0
  where
    pub machine : Behaviour
    pub extracted : IsExtracted order a game certificate machine
    pub out_of_literals : IsOutOfLiterals machine

pub record IsCircuitOf (order : Order) (a : AutomatonData) (game : ParityGame) (certificate : CertificateData)
    (circuit : CircuitData) : Type 0 where
  pub machine : Behaviour
  pub extracted : IsExtracted order a game certificate machine
  pub encodes : Encodes machine circuit
  pub tidy : IsTidy circuit
  pub wired : IsWired machine circuit

abbrev pub IsCircuitFault : Order → AutomatonData → ParityGame → CertificateData → SynthFault → Type 0
IsCircuitFault order a game certificate CircuitTooLarge = HasNoCircuit order a game certificate
IsCircuitFault order a game certificate OutOfMemory = Unit {0}
IsCircuitFault order a game certificate fault = ⊥

abbrev pub of_text : HoaFault → SynthFault
of_text (hoa.Text cause offset) = Text cause offset
of_text hoa.OutOfMemory = OutOfMemory

abbrev pub of_automaton : AutomatonFault → SynthFault
of_automaton automaton.OutOfMemory = OutOfMemory
of_automaton fault = Automaton fault

abbrev pub of_circuit : EncodeFault → SynthFault
of_circuit circuit.CircuitTooLarge = CircuitTooLarge
of_circuit circuit.OutOfMemory = OutOfMemory
