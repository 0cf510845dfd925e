-- What one command prints, and another command reads.
-- - `ReadsLosing`: `lasso` reads what `verify` prints behind `loses` as the stimulus on which the circuit loses
-- - `ReadsLosingSpecified`: `lasso --tlsf` reads so what `verify --tlsf` prints behind `loses`
-- - `ConfirmsLosing`: on this stimulus, `lasso --tlsf` answers `violated`, or with `--env` `satisfied`
-- - `ChecksCertificates`: `check` answers `valid`, and nothing else, for each certificate that `solve`, `cert`, `judge`
--   or `synth --full` prints
-- - `role_that_wins realizable`: the role of the circuit that `synth` prints
-- - `VerifiesCircuits solver`: `verify` answers `wins`, and nothing else, for each circuit that `synth` prints
-- - `VerifiesWinners`: `verify --tlsf` answers `wins`, and nothing else, for each circuit that `synth --tlsf` prints
-- - `VerifiesSmaller`: `verify` answers `wins`, and nothing else, for each circuit that `shrink` prints
-- - `VerifiesSmallerSpecified`: `verify --tlsf` answers so for each circuit that `shrink --tlsf` prints
use Rattle.std.specs.Prelude.{◌≡◌, ◌↔◌, ℕ, Bool, true, false, List, codes, length, Result, Ok, if◌then◌else◌}
use Rattle.ps_certificate.specs.Certificates.{CertificateData}
use Rattle.ps_certificate.specs.Written.{HasWords, text_in}
use Rattle.ps_circuit.specs.Circuits.{CircuitData}
use Rattle.ps_circuit.specs.Written.{text_of}
use Rattle.ps_game.specs.Games.{IsNamedGame, NamedGameData}
use Rattle.ps_hoa.specs.Files.{FileData}
use Rattle.ps_solver.specs.Solvers.{SolverData}
use Rattle.ps_solver.specs.Solving.{IsCertified}
use Rattle.ps_machine.specs.declared.key.Order.{Order}
use Rattle.ps_simulate.specs.Lassos.{IsWordOf}
use Rattle.ps_simulate.specs.Stimuli.{StimulusData}
use Rattle.ps_simulate.specs.Words.{TraceWordData}
use Rattle.ps_simulate.specs.declared.role.Role.{Role}
use Rattle.ps_simulate.specs.declared.role.Role.TheVariants.{Controller, Environment}
use Rattle.ps_synthesis.specs.Printing.{PrintsCircuit}
use Rattle.ps_synthesis.specs.Promises.{SynthesisData}
use Rattle.ps_specification.specs.Promises.{KeepsSpecification}
use Rattle.ps_tlsf.specs.Names.{names_in}
use Rattle.ps_tlsf.specs.Specifications.{Specification}
use Rattle.ps_verify.specs.Judgements.{IsLosing, IsWinning}
use Rattle.ps_program.specs.Commands.Checks.{AnswersCheck}
use Rattle.ps_program.specs.Replies.{Reply, line_reply}
use Rattle.ps_program.specs.Commands.Synthesis.{Synthesises, is_realizable}
use Rattle.ps_program.specs.Texts.{CutsInThree, CutsInTwo, ReadsCircuitText, ReadsGameText, ReadsSpecificationText}
use Rattle.ps_program.specs.Texts.{ReadsStimulusText}
use Rattle.ps_program.specs.Commands.Satisfying.{AnswersLassoTlsf, satisfaction_text}
use Rattle.ps_program.specs.Automata.{ReadsAutomaton}
use Rattle.ps_program.specs.Commands.Shrinking.{IsSmallerReply}
use Rattle.ps_program.specs.Commands.Verifying.{AnswersVerify, stimulus_text, wins_reply}
use Rattle.ps_program.specs.Commands.VerifyingTlsf.{AnswersVerifyTlsf, LosesSpecified, WinsSpecified}

abbrev pub ReadsLosing : Type 0
ReadsLosing = (order : Order) (role : Role) (file : FileData) (c : CircuitData) (s : StimulusData) →
    IsLosing order role file c s → ReadsStimulusText (length c.inputs) true (stimulus_text s) (Ok s)

abbrev pub ReadsLosingSpecified : Type 0
ReadsLosingSpecified = (role : Role) (spec : Specification) (c : CircuitData) (s : StimulusData) →
    LosesSpecified role spec c s → ReadsStimulusText (length c.inputs) true (stimulus_text s) (Ok s)

-- the answer which states that the circuit loses on a stimulus: the word of a controller's circuit violates the
-- specification, and that of an environment's circuit satisfies it
abbrev pub confirming_reply : Role → TraceWordData → Reply
confirming_reply Controller word = line_reply (satisfaction_text false word)
confirming_reply Environment word = line_reply (satisfaction_text true word)

-- `texts` are the texts of a specification and of a circuit, and a stimulus on which the circuit loses. The answer has
-- the lengths of the stem and the lap of the word that `lasso --tlsf` finds.
abbrev pub ConfirmsLosing : Type 0
ConfirmsLosing = (role : Role) (spec : Specification) (c : CircuitData) (s : StimulusData)
    (tlsf aag texts : List ℕ) → ReadsSpecificationText tlsf (Ok spec) → ReadsCircuitText aag (Ok c) →
    LosesSpecified role spec c s → CutsInThree texts (Ok (tlsf, aag, stimulus_text s)) →
    (word : TraceWordData) × IsWordOf (names_in spec.names) c s.stem s.lap word
    × ((outcome : Result Reply (List ℕ)) →
    AnswersLassoTlsf role texts outcome ↔ (outcome ≡ Ok (confirming_reply role word)))

-- `texts` are the text of a game, and the plain or compact text of a certificate that fits it and is valid; the numbers
-- of both fit in 64 bits
abbrev pub ChecksCertificates : Type 0
ChecksCertificates = (compact : Bool) (named : NamedGameData) (certificate : CertificateData) (text texts : List ℕ)
    (outcome : Result Reply (List ℕ)) → IsNamedGame named → IsCertified named certificate →
    HasWords named.ids certificate → ReadsGameText text (Ok named) →
    CutsInTwo texts (Ok (text, text_in compact named certificate)) →
    AnswersCheck texts outcome ↔ (outcome ≡ Ok (line_reply (codes "valid")))

abbrev pub role_that_wins : Bool → Role
role_that_wins realizable = if realizable then Controller else Environment

-- `texts` are the text of an automaton, and the circuit that `synth` prints for this automaton
abbrev pub VerifiesCircuits : SolverData → Type 0
VerifiesCircuits solver = (order : Order) (text texts : List ℕ) (s : SynthesisData) (outcome : Result Reply (List ℕ)) →
    Synthesises solver order text (Ok s) → PrintsCircuit (text_of s.circuit) s.circuit →
    CutsInTwo texts (Ok (text, text_of s.circuit)) →
    AnswersVerify order (role_that_wins (is_realizable s.certificate)) texts outcome ↔ (outcome ≡ Ok wins_reply)

-- `texts` are the text of an automaton, and the smaller circuit that `shrink` prints for this automaton and a circuit
abbrev pub VerifiesSmaller : Type 0
VerifiesSmaller = (order : Order) (role : Role) (file : FileData) (c : CircuitData) (text texts : List ℕ)
    (reply : Reply) (outcome : Result Reply (List ℕ)) → ReadsAutomaton text (Ok file) →
    IsSmallerReply (IsWinning order role file) c reply → CutsInTwo texts (Ok (text, reply.text)) →
    AnswersVerify order role texts outcome ↔ (outcome ≡ Ok wins_reply)

-- `texts` are the text of a specification, and the smaller circuit that `shrink --tlsf` prints for it and a circuit
abbrev pub VerifiesSmallerSpecified : Type 0
VerifiesSmallerSpecified = (role : Role) (spec : Specification) (c : CircuitData) (text texts : List ℕ)
    (reply : Reply) (outcome : Result Reply (List ℕ)) → ReadsSpecificationText text (Ok spec) →
    IsSmallerReply (WinsSpecified role spec) c reply → CutsInTwo texts (Ok (text, reply.text)) →
    AnswersVerifyTlsf role texts outcome ↔ (outcome ≡ Ok wins_reply)

-- `texts` are the text of a specification, and a circuit that `synth --tlsf` prints for it
abbrev pub VerifiesWinners : Type 0
VerifiesWinners = (text texts : List ℕ) (role : Role) (circuit : CircuitData) (outcome : Result Reply (List ℕ)) →
    KeepsSpecification text role circuit → PrintsCircuit (text_of circuit) circuit →
    CutsInTwo texts (Ok (text, text_of circuit)) → AnswersVerifyTlsf role texts outcome ↔ (outcome ≡ Ok wins_reply)
