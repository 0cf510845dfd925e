-- A result of synthesis for a given certificate is also a result for a solver that may return this certificate. A fault
-- of the solver becomes a fault of synthesis.
use Rattle.std.proofs.Common.{arith, ℕ, List, Ok}
use Rattle.ps_certificate.specs.Certificates.{CertificateData}
use Rattle.ps_circuit.specs.Circuits.{CircuitData}
use Rattle.ps_game.specs.Games.{NamedGameData}
use Rattle.ps_hoa.specs.Files.{FileData}
use Rattle.ps_machine.specs.declared.key.Order.{Order}
use Rattle.ps_synthesis.specs.Problems.{ReturnsOnly, IsProblemOf, ProblemData}
use Rattle.ps_solver.specs.Solvers.{MayAnswer}
use Rattle.ps_synthesis.specs.Reports.{IsWinnersSynthesis}
use Rattle.ps_synthesis.specs.Stages.{IsSolverFault, IsTextFault}
use Rattle.ps_synthesis.specs.SynthFaults.{IsSynthFault, OfGame}
use Rattle.ps_synthesis.specs.declared.fault.SynthFault.{SynthFault}
use Rattle.ps_synthesis.specs.declared.fault.SynthFault.TheVariants.{Text, Automaton, BadCycle, Certificate}
use Rattle.ps_synthesis.specs.declared.fault.SynthFault.TheVariants.{NotCertified, CircuitTooLarge, OutOfMemory}
use Rattle.ps_synthesis.proofs.ReportOutcomes.{AnswersMore, fault_more, winners_more}

module _ (May : MayAnswer) (game : NamedGameData) (certificate : CertificateData) (may : May game (Ok certificate))
  where
    too : AnswersMore (ReturnsOnly game certificate) May
    too asked answer given = grind arith

    pub synthesis_by : (order : Order) (text : List ℕ) (circuit : CircuitData) →
        IsWinnersSynthesis (ReturnsOnly game certificate) order text
        (record { game = game; certificate = certificate; circuit = circuit }) →
        IsWinnersSynthesis May order text (record { game = game; certificate = certificate; circuit = circuit })
    synthesis_by order text circuit is = winners_more (ReturnsOnly game certificate) May too order text
        (record { game = game; certificate = certificate; circuit = circuit }) is

    pub fault_by : (order : Order) (text : List ℕ) (fault : SynthFault) →
        IsSynthFault (ReturnsOnly game certificate) order text fault → IsSynthFault May order text fault
    fault_by order text fault h = fault_more (ReturnsOnly game certificate) May too order text fault h

-- a fault of the solver for the game of a text is a fault of synthesis for this text
module _ (May : MayAnswer) (order : Order) (text : List ℕ) (p : ProblemData) (of : IsProblemOf order text p) where
  of_game : (P : FileData → NamedGameData → Type 0) → P of.automaton_of.file p.game → OfGame order text P
  of_game P h = grind arith

  pub fault_of : (fault : SynthFault) → IsSolverFault May p.game fault → IsSynthFault May order text fault
  fault_of fault h = grind (arith, of_game)

-- a fault of a text is a fault of synthesis for this text
pub text_fault : (May : MayAnswer) (order : Order) (text : List ℕ) (fault : SynthFault) → IsTextFault text fault →
    IsSynthFault May order text fault
text_fault May order text (Text cause offset) h = h
text_fault May order text (Automaton fault) h = h
text_fault May order text OutOfMemory h = tt
text_fault May order text (BadCycle ids) h = absurd h
text_fault May order text (Certificate cause offset) h = absurd h
text_fault May order text NotCertified h = absurd h
text_fault May order text CircuitTooLarge h = absurd h
