-- If the stages of synthesis succeed, they give a certificate and a circuit that are right (`IsWinnersSynthesis`), and
-- the report guarantees what it states (`IsReport`); if one fails, the fault has the reason that `IsSynthFault` states.
use Rattle.std.proofs.Common.{rules, arith, ◌≡◌, ◌↔◌, ℕ, Bool, List, Result, Ok, Err, refl, subst, sym}
use Rattle.std.specs.Prelude.{IfErr, IfOk, IsTrue, nat_eq}
use Rattle.std.specs.Result.{IsErrAnd}
use Rattle.ps_circuit.specs.Circuits.{CircuitData}
use Rattle.ps_automaton.specs.Automata.{AutomatonData, IsBuiltFrom, auto_of}
use Rattle.ps_automaton.specs.Chains.{Chain}
use Rattle.ps_certificate.specs.Certificates.{CertificateData}
use Rattle.ps_certificate.specs.Regions.{BothHold, NoneWinsOutside}
use Rattle.ps_game.specs.Games.{NamedGameData, ParityGame}
use Rattle.ps_hoa.specs.Files.{FileData}
use Rattle.ps_machine.specs.Boards.{Board, IsGameOf}
use Rattle.ps_machine.specs.BuiltBoards.{board_of}
use Rattle.ps_solver.specs.Solving.{winner_at_start, IsCertified}
use Rattle.ps_machine.specs.FileGames.{IsGameOfFile, board_of_file}
use Rattle.ps_machine.specs.KeyNames.{AreNamed}
use Rattle.ps_machine.specs.Keys.{mover_of}
use Rattle.ps_machine.specs.Behaviours.{Behaviour}
use Rattle.ps_machine.specs.declared.key.Key.{Key}
use Rattle.ps_machine.specs.declared.key.Order.{Order}
use Rattle.ps_synthesis.specs.Printing.{PrintsCertificate, PrintsCircuit, PrintsGame}
use Rattle.ps_synthesis.specs.Problems.{ReturnsOnly, IsProblem, IsProblemOf, ProblemData}
use Rattle.ps_synthesis.specs.Reports.{IsReport, IsWinners, IsWinnersCircuit, IsWinnersSynthesis}
use Rattle.ps_solver.specs.Solvers.{MayAnswer}
use Rattle.ps_synthesis.specs.Promises.{SynthesisData}
use Rattle.ps_synthesis.specs.Stages.{IsAutomatonOf, IsCircuitFault, IsCircuitOf, IsExtracted}
use Rattle.ps_synthesis.specs.SynthFaults.{IsSureFault, IsSynthFault}
use Rattle.ps_synthesis.specs.declared.fault.SynthFault.{SynthFault}
use Rattle.ps_synthesis.specs.declared.fault.SynthFault.TheVariants.{Text, Automaton, BadCycle, Certificate}
use Rattle.ps_synthesis.specs.declared.fault.SynthFault.TheVariants.{NotCertified, CircuitTooLarge, OutOfMemory}
use Rattle.ps_synthesis.specs.declared.report.Report.{Report}
use Rattle.ps_traces.specs.Answers.{IsWitness}

module _ (order : Order) (text : List ℕ) (a : AutomatonData) (keys : List Key) (game : NamedGameData)
    (of : IsAutomatonOf text a)
    (is_game : IsGameOf (board_of order a) (mover_of order) keys game.game)
    (are_named : AreNamed (board_of order a) keys game) where
  pub board_same : board_of order a ≡ board_of_file order of.file (auto_of a)
  board_same = grind arith

  abbrev pub of_file : IsGameOfFile order of.file game
  of_file = record {
    chain = of.chain;
    is_chain = of.built.is_chain;
    auto = auto_of a;
    is_auto = of.built.auto;
    keys = keys;
    is_game = subst (λ (board : Board). IsGameOf board (mover_of order) keys game.game) board_same is_game;
    are_named = subst (λ (board : Board). AreNamed board keys game) board_same are_named;
  }

  winners : (certificate : CertificateData) (m : Behaviour) → IsExtracted order a game.game certificate m →
      IsWinners order of.file game of_file certificate m
  winners certificate m e = grind arith

  circuit_is : (certificate : CertificateData) (circuit : CircuitData) →
      IsCircuitOf order a game.game certificate circuit → IsWinnersCircuit order of.file game of_file
      certificate circuit
  circuit_is certificate circuit made = grind (arith, winners)

  pub synthesis_is : (May : MayAnswer) (certificate : CertificateData) (circuit : CircuitData) → May game (Ok certificate) →
      IsCertified game certificate → BothHold game.game certificate → NoneWinsOutside game.game certificate →
      IsCircuitOf order a game.game certificate circuit →
      ((file : FileData) (chain : Chain) → IsBuiltFrom file chain a →
      IsWitness order file (winner_at_start certificate) circuit) →
      IsWinnersSynthesis May order text (record { game = game; certificate = certificate; circuit = circuit })
  synthesis_is May certificate circuit may certified hold outside made answers = record {
    synthesis = record {
      file = of.file;
      accepted = of.accepted;
      is_game = of_file;
      answered = may;
      certified = certified;
      both_hold = hold;
      none_wins_outside = outside;
      answers = answers of.file of.chain of.built;
    };
    circuit = circuit_is certificate circuit made;
  }

  pub circuit_cause : (May : MayAnswer) (certificate : CertificateData) (fault : SynthFault) → May game (Ok certificate) →
      IsCertified game certificate → IsCircuitFault order a game.game certificate fault →
      IsSynthFault May order text fault
  circuit_cause May certificate CircuitTooLarge may certified h = record {
    file = of.file;
    accepted = of.accepted;
    game = game;
    is_game = of_file;
    holds = search (rules, winners);
  }
  circuit_cause May certificate OutOfMemory may certified h = tt
  circuit_cause May certificate (Text cause offset) may certified h = absurd h
  circuit_cause May certificate (Automaton fault) may certified h = absurd h
  circuit_cause May certificate (BadCycle ids) may certified h = absurd h
  circuit_cause May certificate (Certificate cause offset) may certified h = absurd h
  circuit_cause May certificate NotCertified may certified h = absurd h

-- ## A problem

-- a valid certificate of a problem's game, and the circuit or the fault that it gives
module _ (p : ProblemData) (is : IsProblem p) (certificate : CertificateData) (certified : IsCertified p.game certificate)
    (order : Order) (text : List ℕ) (of : IsProblemOf order text p) where
  abbrev Only : MayAnswer
  Only = ReturnsOnly p.game certificate

  pub problem_synthesis : (circuit : CircuitData) → BothHold p.game.game certificate →
      NoneWinsOutside p.game.game certificate → IsCircuitOf p.order p.automaton p.game.game certificate circuit →
      ((file : FileData) (chain : Chain) → IsBuiltFrom file chain p.automaton →
      IsWitness p.order file (winner_at_start certificate) circuit) →
      IsWinnersSynthesis Only order text (record { game = p.game; certificate = certificate; circuit = circuit })
  problem_synthesis circuit hold outside made answers =
      subst (λ (o : Order). IsWinnersSynthesis Only o text
      (record { game = p.game; certificate = certificate; circuit = circuit })) of.order_is
      (synthesis_is p.order text p.automaton p.keys p.game of.automaton_of is.is_game is.are_named Only certificate
      circuit (refl, refl) certified hold outside made answers)

  pub problem_cause : (fault : SynthFault) → IsCircuitFault p.order p.automaton p.game.game certificate fault →
      IsSynthFault Only order text fault
  problem_cause fault h = subst (λ (o : Order). IsSynthFault Only o text fault) of.order_is
      (circuit_cause p.order text p.automaton p.keys p.game of.automaton_of is.is_game is.are_named Only certificate
      fault (refl, refl) certified h)

pub sure_circuit : (order : Order) (a : AutomatonData) (game : ParityGame) (certificate : CertificateData)
    (fault : SynthFault) → IsCircuitFault order a game certificate fault → IsSureFault fault
sure_circuit order a game certificate fault h = grind arith

-- ## A report

-- a report that prints the values of a synthesis guarantees what it states
pub report_is : (May : MayAnswer) (order : Order) (text : List ℕ) (s : SynthesisData) (compact : Bool)
    (report : Report) → IsWinnersSynthesis May order text s →
    (IsTrue report.realizable ↔ (winner_at_start s.certificate ≡ 0)) →
    PrintsCircuit report.circuit_text.items s.circuit → PrintsGame report.game_text.items s.game →
    PrintsCertificate compact report.certificate_text.items s.game s.certificate →
    IsReport May order compact text report
report_is May order text s compact report is realizable circuit game certificate = record {
  promise = record {
    printed = s;
    synthesis = is.synthesis;
    realizable = realizable;
    game_text = game;
    certificate_text = certificate;
    circuit_text = circuit;
  };
  circuit = is.circuit;
}

-- ## Results

-- a truth value is that of a test which decides the same
pub zero_test : (b : Bool) (n : ℕ) → (IsTrue b ↔ (n ≡ 0)) → b ≡ nat_eq n 0
zero_test b n same = grind arith

-- what follows from two facts about a value follows from two facts about a result
pub ok_both : {V E : Type 0} (P Q R : V → Type 0) → ((v : V) → P v → Q v → R v) → (r : Result V E) → IfOk r P →
    IfOk r Q → IfOk r R
ok_both P Q R both (Ok v) p q = both v p q
ok_both P Q R both (Err e) p q = tt

pub err_all : {V E : Type 0} (P Q : E → Type 0) → ((e : E) → P e → Q e) → (r : Result V E) → IfErr r P → IfErr r Q
err_all P Q all (Ok v) p = tt
err_all P Q all (Err e) p = all e p

-- what holds of a fault holds of the fault that is passed on
pub err_passed : {V E : Type 0} (Q : E → Type 0) (fault : E) → Q fault → (r : Result V E) →
    IsErrAnd r (λ given. given ≡ fault) → IfErr r Q
err_passed Q fault h (Ok v) passed = absurd passed
err_passed Q fault h (Err given) passed = subst Q (sym passed) h
