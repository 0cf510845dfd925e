-- If each possible answer of one solver is a possible answer of another, a result of synthesis that is right for the
-- first solver is right for the other as well. In each of the three cases of `IsReportOrFault`, a report guarantees
-- what it states, and a fault has the reason that `IsSynthFault` states.
use Rattle.std.proofs.Common.{rules, arith, ◌≡◌, ℕ, Bool, List, Result, Ok, Err, refl, subst, sym}
use Rattle.std.specs.Prelude.{IfErr, IfOk}
use Rattle.std.specs.Result.{IsErrAnd}
use Rattle.ps_certificate.specs.Certificates.{CertificateData}
use Rattle.ps_game.specs.Games.{NamedGameData}
use Rattle.ps_hoa.specs.Files.{FileData}
use Rattle.ps_solver.specs.declared.fault.SolveFault.{SolveFault}
use Rattle.ps_machine.specs.declared.key.Order.{Order}
use Rattle.ps_solver.specs.Solvers.{MayAnswer}
use Rattle.ps_synthesis.specs.Promises.{IsSynthesis, SynthesisData}
use Rattle.ps_synthesis.specs.Reports.{IsReport, IsWinnersSynthesis}
use Rattle.ps_synthesis.specs.SynthFaults.{IsReportOrFault, Reported, TooLarge, LacksMemory, IsSynthFault, IsTooLarge}
use Rattle.ps_synthesis.specs.SynthFaults.{IsSureFault, OfGame}
use Rattle.ps_synthesis.specs.declared.fault.SynthFault.{SynthFault}
use Rattle.ps_synthesis.specs.declared.fault.SynthFault.TheVariants.{Text, Automaton, BadCycle, Certificate}
use Rattle.ps_synthesis.specs.declared.fault.SynthFault.TheVariants.{NotCertified, CircuitTooLarge, OutOfMemory}
use Rattle.ps_synthesis.specs.declared.report.Report.{Report}

-- every possible answer of the first solver is a possible answer of the second
abbrev pub AnswersMore : MayAnswer → MayAnswer → Type 0
AnswersMore May Other =
    (game : NamedGameData) (answer : Result CertificateData SolveFault) → May game answer → Other game answer

module _ (May Other : MayAnswer) (more : AnswersMore May Other) (order : Order) (text : List ℕ) where
  synthesis_more : (s : SynthesisData) → IsSynthesis May order text s → IsSynthesis Other order text s
  synthesis_more s is = record {
    file = is.file;
    accepted = is.accepted;
    is_game = is.is_game;
    answered = more s.game (Ok s.certificate) is.answered;
    certified = is.certified;
    both_hold = is.both_hold;
    none_wins_outside = is.none_wins_outside;
    answers = is.answers;
  }

  pub winners_more : (s : SynthesisData) → IsWinnersSynthesis May order text s → IsWinnersSynthesis Other order text s
  unfolding synthesis_more
  winners_more s is = record { synthesis = synthesis_more s is.synthesis; circuit = is.circuit }

  pub report_more : (compact : Bool) (report : Report) → IsReport May order compact text report →
      IsReport Other order compact text report
  unfolding synthesis_more
  report_more compact report r = let p = r.promise in
      record {
        promise = record {
          printed = p.printed;
          synthesis = synthesis_more p.printed p.synthesis;
          realizable = p.realizable;
          game_text = p.game_text;
          certificate_text = p.certificate_text;
          circuit_text = p.circuit_text;
        };
        circuit = r.circuit;
      }

  of_game : (P Q : FileData → NamedGameData → Type 0) → OfGame order text P →
      ((file : FileData) (game : NamedGameData) → P file game → Q file game) → OfGame order text Q
  of_game P Q h f = grind arith

  too_large_more : OfGame order text (IsTooLarge May order) → OfGame order text (IsTooLarge Other order)
  too_large_more h = search (rules, of_game)

  pub fault_more : (fault : SynthFault) → IsSynthFault May order text fault → IsSynthFault Other order text fault
  fault_more (Text cause offset) h = h
  fault_more (Automaton fault) h = h
  fault_more (BadCycle ids) h = search (rules, of_game)
  fault_more (Certificate cause offset) h = grind arith
  fault_more NotCertified h = grind arith
  fault_more CircuitTooLarge h = too_large_more h
  fault_more OutOfMemory h = h

  pub outcome_more : (compact : Bool) (answer : Result Report SynthFault) →
      IsReportOrFault May order compact text answer →
      IsReportOrFault Other order compact text answer
  outcome_more compact answer (Reported report e is) = Reported report e (report_more compact report is)
  outcome_more compact answer (TooLarge e is) = TooLarge e (too_large_more is)
  outcome_more compact answer (LacksMemory e) = LacksMemory e

-- ## Outcomes

module _ (May : MayAnswer) (order : Order) (compact : Bool) (text : List ℕ) where
  pub outcome : (answer : Result Report SynthFault) → IfOk answer (IsReport May order compact text) →
      IfErr answer (IsSynthFault May order text) → IfErr answer IsSureFault →
      IsReportOrFault May order compact text answer
  outcome (Ok report) is cause sure = Reported report refl is
  outcome (Err CircuitTooLarge) is cause sure = TooLarge refl cause
  outcome (Err OutOfMemory) is cause sure = LacksMemory refl
  outcome (Err (Text c offset)) is cause sure = absurd sure
  outcome (Err (Automaton fault)) is cause sure = absurd sure
  outcome (Err (BadCycle ids)) is cause sure = absurd sure
  outcome (Err (Certificate c offset)) is cause sure = absurd sure
  outcome (Err NotCertified) is cause sure = absurd sure

  -- a fault that is passed on
  pub failed : (answer : Result Report SynthFault) (fault : SynthFault) → IsErrAnd answer (λ given. given ≡ fault) →
      IsSynthFault May order text fault → IsSureFault fault → IsReportOrFault May order compact text answer
  failed (Ok report) fault passed cause sure = absurd passed
  failed (Err given) fault passed cause sure = outcome (Err given) tt
      (subst (IsSynthFault May order text) (sym passed) cause) (subst IsSureFault (sym passed) sure)

  pub report_in : (answer : Result Report SynthFault) → IsReportOrFault May order compact text answer →
      IfOk answer (IsReport May order compact text)
  report_in answer (Reported report e is) =
      subst (λ (a : Result Report SynthFault). IfOk a (IsReport May order compact text)) (sym e) is
  report_in answer (TooLarge e is) =
      subst (λ (a : Result Report SynthFault). IfOk a (IsReport May order compact text)) (sym e) tt
  report_in answer (LacksMemory e) =
      subst (λ (a : Result Report SynthFault). IfOk a (IsReport May order compact text)) (sym e) tt

  pub cause_in : (answer : Result Report SynthFault) → IsReportOrFault May order compact text answer →
      IfErr answer (IsSynthFault May order text)
  cause_in answer (Reported report e is) =
      subst (λ (a : Result Report SynthFault). IfErr a (IsSynthFault May order text)) (sym e) tt
  cause_in answer (TooLarge e is) =
      subst (λ (a : Result Report SynthFault). IfErr a (IsSynthFault May order text)) (sym e) is
  cause_in answer (LacksMemory e) =
      subst (λ (a : Result Report SynthFault). IfErr a (IsSynthFault May order text)) (sym e) tt

  pub sure_in : (answer : Result Report SynthFault) → IsReportOrFault May order compact text answer →
      IfErr answer IsSureFault
  sure_in answer h = grind arith
