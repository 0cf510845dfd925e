-- Lemmas about the result of synthesis. A fault comes from the solver only if the solver is not sure, that is, if it
-- may return a wrong certificate or fail though memory suffices. Each result of synthesis that is possible after a call
-- of the solver was also possible before this call.
use Rattle.std.proofs.Common.{arith, ◌≡◌, ◌⊎◌, ℕ, Bool, true, false, List, ◌++◌, Result, Ok, Err, ap, inl, inr}
use Rattle.std.proofs.Common.{subst}
use Rattle.std.proofs.Common.{◌∙◌, ap₂, sym}
use Rattle.std.specs.Prelude.{Option}
use Rattle.ps_circuit.specs.Circuits.{CircuitData}
use Rattle.ps_circuit.specs.Written.{text_of}
use Rattle.ps_machine.specs.declared.key.Order.{Order}
use Rattle.ps_synthesis.specs.Reports.{IsWinnersSynthesis}
use Rattle.ps_synthesis.specs.Stages.{IsTextFault}
use Rattle.ps_solver.specs.Solvers.{Answered, IsKept, SolverData, answers_now}
use Rattle.ps_solver.specs.Solving.{winner_at_start}
use Rattle.ps_synthesis.specs.Printing.{PrintsCircuit}
use Rattle.ps_synthesis.specs.Promises.{SynthesisData}
use Rattle.ps_synthesis.specs.ShortAnswers.{IsShortOf}
use Rattle.ps_synthesis.specs.SynthFaults.{IsSureFault, IsSynthFault}
use Rattle.ps_synthesis.specs.declared.fault.SynthFault.{SynthFault}
use Rattle.ps_synthesis.specs.declared.short.Short.{Short}
use Rattle.ps_synthesis.proofs.ReportOutcomes.{fault_more, winners_more}
use Rattle.ps_synthesis.proofs.Reporting.{zero_test}
use Rattle.ps_program.specs.declared.answer.Answer.{Answer}
use Rattle.ps_program.specs.declared.answer.Refusal.{Refusal}
use Rattle.ps_program.specs.declared.answer.Refusal.TheVariants as refusal
use Rattle.ps_program.specs.declared.commands.SynthLine.{SynthLine}
use Rattle.ps_program.specs.Faults.{fault_text}
use Rattle.ps_program.specs.Outcomes.{Gives}
use Rattle.ps_program.specs.Replies.{Reply, reply_of}
use Rattle.ps_program.specs.StageFaults.{IsOfSolver, IsTold}
use Rattle.ps_program.specs.Commands.Synthesis.{AnswersReport, IsPrinted, Synthesises, is_realizable, synthesis_reply}
use Rattle.ps_program.specs.Commands.Synthesis.{verdict_line, verdict_status}
use Rattle.ps_program.proofs.ByCommand.OutcomeLemmas.{gives_failed}
use Rattle.ps_program.proofs.ByCommand.SolverLemmas.{unsure}

-- if a fault of synthesis comes from the solver, the solver is not sure (may return a certificate that is not valid)
pub unsure_of : (sure : Bool) (fault : SynthFault) → (sure ≡ true → IsSureFault fault) → IsOfSolver fault →
    sure ≡ false
unsure_of sure fault surely lies = grind (arith, unsure)

-- a fault of an automaton's text does not come from the solver
pub of_text : (sure : Bool) (text : List ℕ) (fault : SynthFault) → IsTextFault text fault → IsOfSolver fault →
    sure ≡ false
of_text sure text fault h lies = grind arith

-- a fault of the text, or one that a sure solver may return, does not come from the solver
of_text_or_sure : (sure : Bool) (text : List ℕ) (fault : SynthFault) → IsTextFault text fault ⊎ IsSureFault fault →
    IsOfSolver fault → sure ≡ false
of_text_or_sure sure text fault (inl h) lies = of_text sure text fault h lies
of_text_or_sure sure text fault (inr h) lies = unsure_of sure fault (λ is. h) lies

-- if synthesis returns a fault, this fault is the result of the command
pub gives_told : (solver : SolverData) (order : Order) (text : List ℕ) (fault : SynthFault) (refused : Refusal) →
    IsSynthFault (answers_now solver) order text fault → (IsOfSolver fault → solver.is_sure ≡ false) →
    IsTold fault refused → Gives (λ (s : SynthesisData). s) (Synthesises solver order text) (Err refused)
gives_told solver order text fault (refusal.Fault line) cause lies told = (fault, cause, lies, told)
gives_told solver order text fault refusal.OutOfMemory cause lies told = tt

-- ---- the winner and a circuit, without the game

abbrev reply_from : List ℕ → ℕ → Reply
reply_from text status = record { text = text; status = status }

reply_same : (s : SynthesisData) (compact realizable : Bool) (circuit : CircuitData) (answer : Answer) →
    answer.text.items ≡ verdict_line realizable ++ text_of circuit → answer.status ≡ verdict_status realizable →
    realizable ≡ is_realizable s.certificate → circuit ≡ s.circuit →
    reply_of answer ≡ synthesis_reply false compact s
reply_same s compact realizable circuit answer text status winner same =
    ap₂ reply_from (text ∙ ap₂ (λ (b : Bool) (c : CircuitData). verdict_line b ++ text_of c) winner same)
    (status ∙ ap verdict_status winner)

-- a line that states the winner, and the winner's circuit, are what is printed without `--full`
printed_short : (compact : Bool) (s : SynthesisData) (realizable : Bool) (circuit : CircuitData) (answer : Answer) →
    realizable ≡ is_realizable s.certificate → circuit ≡ s.circuit →
    answer.text.items ≡ verdict_line realizable ++ text_of circuit → answer.status ≡ verdict_status realizable →
    PrintsCircuit (text_of circuit) circuit →
    IsPrinted false compact s × (reply_of answer ≡ synthesis_reply false compact s)
printed_short compact s realizable circuit answer winner same text status prints = (
  subst (λ (c : CircuitData). PrintsCircuit (text_of c) c) same prints,
  reply_same s compact realizable circuit answer text status winner same,
)

pub short_answers : (solver : SolverData) (asked : SynthLine) (text : List ℕ) (short : Short) (answer : Answer) →
    asked.full ≡ false → IsShortOf (Answered solver solver) asked.order text short →
    answer.text.items ≡ verdict_line short.realizable ++ text_of short.circuit →
    answer.status ≡ verdict_status short.realizable → PrintsCircuit (text_of short.circuit) short.circuit →
    AnswersReport solver asked text (Ok (reply_of answer))
short_answers solver asked text short answer brief is told status prints =
    let printed = printed_short asked.compact is.made short.realizable short.circuit answer
    (zero_test short.realizable (winner_at_start is.made.certificate) is.realizable) is.circuit_is told status prints in
    inr (
      is.made,
      winners_more (Answered solver solver) (answers_now solver) (λ game answer h. h.0) asked.order text is.made
          is.winners,
      subst (λ (full : Bool). IsPrinted full asked.compact is.made × (let outcome : Result Reply (List ℕ) = Ok (reply_of
          answer) in outcome ≡ Ok (synthesis_reply full asked.compact is.made))) (sym brief) (printed.0, ap Ok printed.1),
    )

-- a fault without the game is one that `synth` may tell
pub short_refuses : (solver : SolverData) (asked : SynthLine) (text : List ℕ) (fault : SynthFault) (refused : Refusal) →
    IsSynthFault (Answered solver solver) asked.order text fault → IsTextFault text fault ⊎ IsSureFault fault →
    IsTold fault refused → Gives reply_of (AnswersReport solver asked text) (Err refused)
short_refuses solver asked text fault refused cause sure told =
    let Prints : SynthesisData → Result Reply (List ℕ) → Type 0 = λ s outcome.
    IsPrinted asked.full asked.compact s × (outcome ≡ Ok (synthesis_reply asked.full asked.compact s)) in
    gives_failed (λ (s : SynthesisData). s) (Synthesises solver asked.order text) reply_of Prints refused
    (gives_told solver asked.order text fault refused (fault_more (Answered solver solver) (answers_now solver)
    (λ game answer h. h.0) asked.order text fault cause) (of_text_or_sure solver.is_sure text fault sure) told)

-- ---- a solver whose possible answers after a call were all possible before the call

module _ (old new : SolverData) (kept : IsKept old new) where
  synthesises_kept : (order : Order) (text : List ℕ) (outcome : Result SynthesisData (List ℕ))
      → Synthesises new order text outcome → Synthesises old order text outcome
  synthesises_kept order text (Ok s) h = winners_more (new.may_answer old.fed) (old.may_answer old.fed)
      (kept.same old.fed) order text s
      (subst (λ (fed : Option (List ℕ)). IsWinnersSynthesis (new.may_answer fed) order text s) kept.kept h)
  synthesises_kept order text (Err line) (fault, cause, lies, told) = grind (arith, fault_more)

  answers_kept : (asked : SynthLine) (text : List ℕ) (outcome : Result Reply (List ℕ))
      → AnswersReport new asked text outcome → AnswersReport old asked text outcome
  answers_kept asked text outcome (inl (line, h, e)) = inl (line, synthesises_kept asked.order text (Err line) h, e)
  answers_kept asked text outcome (inr (s, h, e)) = inr (s, synthesises_kept asked.order text (Ok s) h, e)

  -- each result that `synth` may give with the solver's state after a call of the solver, it may also give with the
  -- state before this call
  pub gives_kept : (asked : SynthLine) (text : List ℕ) (result : Result Answer Refusal)
      → Gives reply_of (AnswersReport new asked text) result → Gives reply_of (AnswersReport old asked text) result
  gives_kept asked text (Ok answer) h = answers_kept asked text (Ok (reply_of answer)) h
  gives_kept asked text (Err (refusal.Fault fault)) h = answers_kept asked text (Err (fault_text fault)) h
  gives_kept asked text (Err refusal.OutOfMemory) h = h
