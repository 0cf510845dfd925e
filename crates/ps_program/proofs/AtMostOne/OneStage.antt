-- Parsing an automaton, making its game and judging a lasso have at most one result each, by laws of other crates. The
-- file also states which texts are refused.
use Rattle.std.proofs.Common.{rules, ◌≡◌, ◌≢◌, ◌⊎◌, ◌∙◌, ◌<◌, ℕ, Bool, List, [], None, Some, length, Result, Ok, Err}
use Rattle.std.proofs.Common.{sym, ap, inl, inr, arith}
use Rattle.ps_text.specs.Answers.{Found}
use Rattle.ps_game.specs.Games.{ParityGame, NamedGameData, IsGame}
use Rattle.ps_solver.specs.Solvers.{SolverData, answers_now}
use Rattle.ps_pgsolver.specs.Reading.{Answer}
use Rattle.ps_pgsolver.specs.declared.fault.PgCause.{PgCause}
use Rattle.ps_certificate.specs.Certificates.{CertificateData, IsFirstFlaw}
use Rattle.ps_certificate.specs.declared.flaw.Flaw.{Flaw}
use Rattle.ps_circuit.specs.Circuits.{CircuitData, IsCircuit}
use Rattle.ps_circuit.specs.Values.{HasOneValues}
use Rattle.ps_circuit.specs.CauseNames as circuit_names
use Rattle.ps_circuit.specs.Causes as circuit
use Rattle.ps_circuit.specs.Texts as circuit_text
use Rattle.ps_circuit.specs.declared.fault.AigCause.{AigCause}
use Rattle.ps_automaton.specs.Answers.{IsAdmitted, IsRefused}
use Rattle.ps_automaton.specs.declared.fault.AutomatonFault.{AutomatonFault}
use Rattle.ps_automaton.specs.declared.fault.AutomatonFault.TheVariants.{OutOfMemory as no_memory}
use Rattle.ps_hoa.specs.Files.{FileData}
use Rattle.ps_machine.specs.declared.key.Order.{Order}
use Rattle.ps_synthesis.specs.SynthFaults.{IsSynthFault}
use Rattle.ps_synthesis.specs.declared.fault.SynthFault.{SynthFault}
use Rattle.ps_simulate.specs.Lassos.{HasOneVerdict}
use Rattle.ps_simulate.specs.Stimuli.{StimulusData}
use Rattle.ps_simulate.specs.Symbols.{HasSymbols}
use Rattle.ps_simulate.specs.declared.lassos.Verdict.{Verdict}
use Rattle.ps_simulate.specs.declared.role.Role.{Role}
use Rattle.ps_simulate.specs.StimulusTexts as stimulus_text
use Rattle.ps_program.specs.Automata.{Builds, ReadsAutomaton}
use Rattle.ps_program.specs.Laws.Determined.{HasAutomaton}
use Rattle.ps_program.specs.Commands.Games.{MakesGame, ReadsGameOf}
use Rattle.ps_program.specs.Commands.Lassos.{TellsVerdict, verdict_text}
use Rattle.ps_program.specs.Replies.{Reply, line_reply}
use Rattle.ps_program.specs.StageFaults.{automaton_line, stage_line}
use Rattle.ps_program.specs.Commands.Synthesis.{AnswersReport}
use Rattle.ps_program.specs.declared.commands.SynthLine.{SynthLine}
use Rattle.ps_program.proofs.AtMostOne.Agreeing.{OneFile, OneFileGame}
use Rattle.ps_program.proofs.ByCommand.AutomatonLemmas.{no_line, text_refused}
use Rattle.ps_program.proofs.AtMostOne.OneStep.{IsOne, ok_of, ok_is_not_err, then_one, reading_one}
use Rattle.ps_program.specs.Texts.{ReadsCircuitText}

-- ---- the laws of the parsers

abbrev pub OneGame : Type 0
OneGame = (text : List ℕ) (a b : Result NamedGameData (Found PgCause)) → Answer text a → Answer text b → a ≡ b

abbrev pub OneFlaw : Type 0
OneFlaw = (arena : ParityGame) (given : CertificateData) (flaw other : Flaw) → IsGame arena →
    IsFirstFlaw arena given flaw → IsFirstFlaw arena given other → flaw ≡ other

abbrev pub OneCircuit : Type 0
OneCircuit = (text : List ℕ) (a b : Result CircuitData (Found AigCause)) → circuit_text.ReadsCircuit text a →
    circuit_text.ReadsCircuit text b → a ≡ b

pub circuit_one : OneCircuit → (text : List ℕ) → IsOne (ReadsCircuitText text)
circuit_one circuits text =
    reading_one circuit.cause_number circuit_names.cause_name (circuit_text.ReadsCircuit text) (circuits text)

abbrev pub OneStimulus : Type 0
OneStimulus = (text : List ℕ) (width : ℕ) (split : Bool) → stimulus_text.HasOneAnswer text width split

abbrev pub OneRefusal : Type 0
OneRefusal = (file : FileData) (fault other : AutomatonFault) → fault ≢ no_memory → other ≢ no_memory →
    IsRefused file fault → IsRefused file other → fault ≡ other

abbrev pub OneOutcome : Type 0
OneOutcome = (file : FileData) (fault : AutomatonFault) → fault ≢ no_memory → IsAdmitted file → ¬ IsRefused file fault

abbrev pub OneVerdict : Type 0
OneVerdict = (role : Role) (file : FileData) (c : CircuitData) (stem lap : List (List Bool)) → IsCircuit c →
    HasSymbols role file.names file.controllable c
    → HasOneVerdict file c stem lap

abbrev pub OneValues : Type 0
OneValues = (c : CircuitData) → IsCircuit c → HasOneValues c

-- ---- automata

-- a fault that a line reports is not `OutOfMemory`
is_told : (fault : AutomatonFault) (line : List ℕ) → automaton_line fault ≡ Some line → fault ≢ no_memory
is_told fault line told none = let bad : None ≡ Some line = ap automaton_line (sym none) ∙ told in cc

builds_one : OneRefusal → OneOutcome → (file : FileData) → IsOne (Builds file)
builds_one refusals outcomes file h4 h5 h k = grind (arith, is_told)

pub automaton_one : OneFile → OneRefusal → OneOutcome → (text : List ℕ) → IsOne (ReadsAutomaton text)
automaton_one files refusals outcomes text = grind (arith, then_one, reading_one, builds_one)

-- ---- games of automata

pub makes_one : OneFileGame → (order : Order) (file : FileData) → IsOne (MakesGame order file)
makes_one games order file h4 h5 h k = grind arith

-- ---- lassos

pub no_empty_lap : (lap : List (List Bool)) → lap ≡ [] → 0 < length lap → ⊥
no_empty_lap lap none some = omega (arith, some, ap length none)

pub tells_one : OneVerdict → (role : Role) (file : FileData) (c : CircuitData) (s : StimulusData) →
    IsOne (TellsVerdict role file c s)
tells_one verdicts role file c s (Ok r) (Ok t) h k =
    let same = verdicts role file c s.stem s.lap h.0 h.2 h.3.0 k.3.0 h.3.1 k.3.1 in
    ap (ok_of {V = Reply} {E = List ℕ}) (h.3.2 ∙ ap (λ (v : Verdict). line_reply (verdict_text v)) same ∙ sym k.3.2)
tells_one verdicts role file c s (Ok r) (Err m) h (inl empty) = absurd (no_empty_lap s.lap empty.0 h.1)
tells_one verdicts role file c s (Ok r) (Err m) h (inr other) = absurd (other.1 h.2)
tells_one verdicts role file c s (Err l) (Ok t) (inl empty) k = absurd (no_empty_lap s.lap empty.0 k.1)
tells_one verdicts role file c s (Err l) (Ok t) (inr other) k = absurd (other.1 k.2)
tells_one verdicts role file c s (Err l) (Err m) (inl empty) (inl empty') = grind arith
tells_one verdicts role file c s (Err l) (Err m) (inl empty) (inr other') = absurd (no_empty_lap s.lap empty.0 other'.0)
tells_one verdicts role file c s (Err l) (Err m) (inr other) (inl empty') = absurd (no_empty_lap s.lap empty'.0 other.0)
tells_one verdicts role file c s (Err l) (Err m) (inr other) (inr other') = grind arith

-- ---- texts that are refused

pub game_accepted : (order : Order) (text : List ℕ) (v : NamedGameData) → ReadsGameOf order text (Ok v) →
    HasAutomaton text
game_accepted order text v h = grind (arith, ok_is_not_err)

-- the text is refused and the result is the line that reports its fault, or the text is accepted
abbrev pub RefusedOr : List ℕ → Result Reply (List ℕ) → Type 0
RefusedOr text outcome = ((line : List ℕ) × ReadsAutomaton text (Err line) × (outcome ≡ Err line)) ⊎ HasAutomaton text

fault_refused : (solver : SolverData) (order : Order) (text line : List ℕ) (outcome : Result Reply (List ℕ))
    (fault : SynthFault) → IsSynthFault (answers_now solver) order text fault → stage_line fault ≡ Some line →
    outcome ≡ Err line
    → RefusedOr text outcome
fault_refused solver order text line outcome fault h told e = search (rules, text_refused, no_line)

pub report_refused : (solver : SolverData) (asked : SynthLine) (text : List ℕ) (outcome : Result Reply (List ℕ)) →
    AnswersReport solver asked text outcome → RefusedOr text outcome
report_refused solver asked text outcome h = search (rules, fault_refused)
