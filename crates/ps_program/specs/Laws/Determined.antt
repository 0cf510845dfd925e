-- The program's answer is determined, with five exceptions: which cycle `judge` reports if a player loses, which
-- stimulus `verify` and `shrink` report, which smaller circuit `shrink` prints (both also with `--tlsf`), which lasso
-- `agree` reports, and which certificate a solver, which circuit `synth --tlsf`, or which automaton `translate`
-- chooses. Even in the exceptional cases, any two answers have something in common.
-- - `IsUndetermined line texts`: for these texts, the command in the line may have more than one correct answer
-- - `IsReplaying solver`: the solver only returns the result of parsing the text that it was fed, unless memory runs
--   out
-- - `AgreeAsDiffering spec file a b`: both answers show a lasso on which the automaton and the specification differ
-- - `AgreeAsTranslations text a b`: both answers are texts of automata that agree with the specification
-- - `AgreeInRole text a b`: both answers show circuits of the same role that answer the specification
-- - `AgreeAsReports order full compact text a b`: both answers show the same winner of the automaton's game
-- - `AgreeInWinners compact game a b`: the answers a and b print certificates of the game with the same winners
-- - `AgreeAsLosing Loses a b`: both answers show a stimulus on which the circuit loses
-- - `AgreeAsSmaller Winning c a b`: both answers print a circuit that wins and is not larger than the circuit
-- - `AgreeInLoser named given a b`: both answers report a cycle that the same player loses
-- - `HasOneAnswer finders`: any two answers to the same input are equal, or the command allows several answers; then
--   the two agree as `Agree` states, or the command calls a solver and one of the two answers reports a fault
-- - `HasOneCertified finders`: with a given certificate, `synth` has one answer if its solver only parses it
-- - `NeedsItsTexts finders`: a command that is not refused and has fewer texts than it needs has one answer: a text is
--   missing
use Rattle.std.specs.Prelude.{◌≡◌, ◌≢◌, ◌<◌, ◌⊎◌, ◌+◌, ◌-◌, ℕ, Bool, true, false, List, Option, Result, Ok, Err, filter}
use Rattle.std.specs.Prelude.{length}
use Rattle.std.specs.List.{AllByRecursion}
use Rattle.clap.specs.Words.{Text}
use Rattle.ps_certificate.specs.Certificates.{CertificateData, winner_of}
use Rattle.ps_certificate.specs.Written.{text_in}
use Rattle.ps_game.specs.Games.{NamedGameData, IsGame, vertex_count}
use Rattle.ps_circuit.specs.Circuits.{CircuitData}
use Rattle.ps_simulate.specs.Stimuli.{StimulusData}
use Rattle.ps_simulate.specs.declared.role.Role.{Role}
use Rattle.ps_verify.specs.Judgements.{IsLosing, IsWinning}
use Rattle.ps_solution.specs.Solved.{SolutionData}
use Rattle.ps_models.specs.declared.agreement.Agreement.{Agreement}
use Rattle.ps_specification.specs.Promises.{KeepsSpecification, KeepsTranslation}
use Rattle.ps_tlsf.specs.Specifications.{Specification}
use Rattle.ps_hoa.specs.Files.{FileData}
use Rattle.ps_machine.specs.FileGames.{IsGameOfFile}
use Rattle.ps_solver.specs.Solvers.{SolverData}
use Rattle.ps_solver.specs.Solving.{IsCertified, Replays, winner_at_start}
use Rattle.ps_solver.specs.declared.fault.SolveFault.{SolveFault}
use Rattle.ps_machine.specs.declared.key.Order.{Order}
use Rattle.ps_synthesis.specs.Promises.{IsAcceptedText, SynthesisData}
use Rattle.ps_program.specs.CommandLine.{Usage, IsLine, commands}
use Rattle.ps_program.specs.Commands.Comparing.{ReadsCompared, TellsDifference, agreement_text}
use Rattle.ps_program.specs.Cut.{HasFewerSeparators, behind_line, first_line}
use Rattle.ps_program.specs.Commands.Games.{ReadsGameOf}
use Rattle.ps_program.specs.Commands.Judging.{ReadsSolved, Loses, LosesCycle, cycle_text}
use Rattle.ps_program.specs.Program.{AnswersLine, AnswersWhole}
use Rattle.ps_program.specs.Replies.{Reply, fault_reply, text_reply}
use Rattle.ps_program.specs.Commands.Shrinking.{IsSmallerReply}
use Rattle.ps_program.specs.Finders.{Finders}
use Rattle.ps_program.specs.Commands.Synthesis.{synthesis_reply}
use Rattle.ps_program.specs.Commands.SynthesisTlsf.{winner_reply}
use Rattle.ps_program.specs.Commands.Verifying.{ReadsVerified, loses_reply}
use Rattle.ps_program.specs.Commands.VerifyingTlsf.{LosesSpecified, ReadsSpecified, WinsSpecified}
use Rattle.ps_program.specs.Texts.{CutsInTwo, ReadsGameText, ReadsSpecificationText, missing_text}
use Rattle.ps_program.specs.declared.commands.Line.{Line}
use Rattle.ps_program.specs.declared.commands.Line.TheVariants.{Refused, Judge, Verify, VerifyTlsf, Shrink, ShrinkTlsf}
use Rattle.ps_program.specs.declared.commands.Line.TheVariants.{Cert, Solve, Synth, SynthTlsf, Translate}
use Rattle.ps_program.specs.declared.commands.Line.TheVariants as line
use Rattle.ps_program.specs.declared.commands.SynthLine.{SynthLine}

abbrev pub HasAutomaton : List ℕ → Type 0
HasAutomaton text = (file : FileData) × IsAcceptedText text file

-- the text of the automaton for which a circuit is requested; a certificate may follow this text
abbrev pub AsksFor : (cert : Bool) → List ℕ → List ℕ → Type 0
AsksFor false texts text = texts ≡ text
AsksFor true texts text = (certificate : List ℕ) × CutsInTwo texts (Ok (text, certificate))

-- A command allows several answers in these cases. If a solver is called for a game or an automaton, any winning moves
-- may be printed. If a judged solution allows a cycle that makes a player lose, any cycle of this kind may be reported.
-- If a verified circuit loses, any stimulus on which it loses may be reported; and so it is with a circuit that is to
-- be made smaller. If it wins, any circuit that wins and is not larger may be printed. If an automaton and a
-- specification differ, any lasso on which they do may be reported. For a specification, any circuit that answers it
-- may be printed, or any automaton that agrees with it, or a fault in its place.
abbrev pub IsUndetermined : Line → List ℕ → Type 0
IsUndetermined (Judge compact) texts =
    (named : NamedGameData) × (given : SolutionData) × ReadsSolved texts (Ok (named, given)) × LosesCycle named given
IsUndetermined (Verify order role) texts =
    (file : FileData) × (c : CircuitData) × ReadsVerified texts file c ×
    ((s : StimulusData) × IsLosing order role file c s)
IsUndetermined (VerifyTlsf role) texts =
    (spec : Specification) × (c : CircuitData) × ReadsSpecified texts spec c ×
    ((s : StimulusData) × LosesSpecified role spec c s)
IsUndetermined (Shrink order role) texts =
    (file : FileData) × (c : CircuitData) × ReadsVerified texts file c ×
    (IsWinning order role file c ⊎ ((s : StimulusData) × IsLosing order role file c s))
IsUndetermined (ShrinkTlsf role) texts =
    (spec : Specification) × (c : CircuitData) × ReadsSpecified texts spec c ×
    (WinsSpecified role spec c ⊎ ((s : StimulusData) × LosesSpecified role spec c s))
IsUndetermined (Solve compact) text = (game : NamedGameData) × ReadsGameText text (Ok game)
IsUndetermined (Cert order compact) text = HasAutomaton text
IsUndetermined (Synth asked) texts = (text : List ℕ) × AsksFor asked.cert texts text × HasAutomaton text
IsUndetermined line.Agree texts =
    (spec : Specification) × (file : FileData) × ReadsCompared texts spec file ×
    ((agreement : Agreement) × TellsDifference spec file agreement)
IsUndetermined Translate text = (spec : Specification) × ReadsSpecificationText text (Ok spec)
IsUndetermined SynthTlsf text = (spec : Specification) × ReadsSpecificationText text (Ok spec)
IsUndetermined line texts = ⊥

abbrev pub IsReplaying : SolverData → Type 0
IsReplaying solver = (fed : Option (List ℕ)) (game : NamedGameData) (answer : Result CertificateData SolveFault) →
    solver.may_answer fed game answer → Replays game fed answer

-- Two answers that `synth` may print for one automaton have the same game and the same winner. So they have the same
-- exit status and the same first line.
pub record AgreeAsReports (order : Order) (full compact : Bool) (text : List ℕ) (a b : Reply) : Type 0 where
  pub file : FileData
  pub accepted : IsAcceptedText text file
  pub one : SynthesisData
  pub other : SynthesisData
  pub is_game : IsGameOfFile order file one.game
  pub game : one.game ≡ other.game
  pub winner : winner_at_start one.certificate ≡ winner_at_start other.certificate
  pub is_one : a ≡ synthesis_reply full compact one
  pub is_other : b ≡ synthesis_reply full compact other

-- two answers print certificates of the game that assign the same winner to each vertex
pub record AgreeInWinners (compact : Bool) (game : NamedGameData) (a b : Reply) : Type 0 where
  pub one : CertificateData
  pub other : CertificateData
  pub one_certified : IsCertified game one
  pub other_certified : IsCertified game other
  pub is_one : a ≡ text_reply (text_in compact game one)
  pub is_other : b ≡ text_reply (text_in compact game other)
  pub winners : IsGame game.game → (v : ℕ) → v < vertex_count game.game → winner_of one v ≡ winner_of other v

-- each of two answers prints a stimulus on which the circuit loses
pub record AgreeAsLosing (Loses : StimulusData → Type 0) (a b : Reply) : Type 0 where
  pub one : StimulusData
  pub other : StimulusData
  pub one_loses : Loses one
  pub other_loses : Loses other
  pub is_one : a ≡ loses_reply one
  pub is_other : b ≡ loses_reply other

-- each of two answers prints a circuit that wins and is not larger than the circuit c
pub record AgreeAsSmaller (Winning : CircuitData → Type 0) (c : CircuitData) (a b : Reply) : Type 0 where
  pub wins : Winning c
  pub one : IsSmallerReply Winning c a
  pub other : IsSmallerReply Winning c b

-- both answers print a smaller circuit, or both print a stimulus on which the circuit loses
abbrev pub AgreeOnCircuit :
    (CircuitData → Type 0) → (CircuitData → StimulusData → Type 0) → CircuitData → Reply → Reply → Type 0
AgreeOnCircuit Winning Losing c a b = AgreeAsSmaller Winning c a b ⊎ AgreeAsLosing (Losing c) a b

-- each of two answers reports a cycle of the solution that the same player loses
pub record AgreeInLoser (named : NamedGameData) (given : SolutionData) (a b : Reply) : Type 0 where
  pub player : ℕ
  pub one : List ℕ
  pub other : List ℕ
  pub one_lost : Loses named given player one
  pub other_lost : Loses named given player other
  pub is_one : a ≡ fault_reply (cycle_text named one)
  pub is_other : b ≡ fault_reply (cycle_text named other)

-- two answers to `synth --tlsf` print circuits that answer the specification, both as controllers, or both as
-- environments; so they have the same exit status and the same first line
pub record AgreeInRole (text : List ℕ) (a b : Reply) : Type 0 where
  pub role : Role
  pub one : CircuitData
  pub other : CircuitData
  pub one_answers : KeepsSpecification text role one
  pub other_answers : KeepsSpecification text role other
  pub is_one : a ≡ winner_reply role one
  pub is_other : b ≡ winner_reply role other

-- each of two answers prints a lasso on which the automaton and the specification differ
pub record AgreeAsDiffering (spec : Specification) (file : FileData) (a b : Reply) : Type 0 where
  pub one : Agreement
  pub other : Agreement
  pub one_differs : TellsDifference spec file one
  pub other_differs : TellsDifference spec file other
  pub is_one : a ≡ text_reply (agreement_text (length spec.names) one)
  pub is_other : b ≡ text_reply (agreement_text (length spec.names) other)

-- two answers print texts of automata that accept exactly the lassos which satisfy the specification
pub record AgreeAsTranslations (text : List ℕ) (a b : Reply) : Type 0 where
  pub one : List ℕ
  pub other : List ℕ
  pub one_translates : KeepsTranslation text one
  pub other_translates : KeepsTranslation text other
  pub is_one : a ≡ text_reply one
  pub is_other : b ≡ text_reply other

-- what two answers to a command have in common; `text` or `texts` is the input after its first line. If the command
-- calls a solver, this is what two answers have in common that report no fault.
abbrev pub Agree : Line → List ℕ → Reply → Reply → Type 0
Agree (Judge compact) texts a b =
    (named : NamedGameData) × (given : SolutionData) × ReadsSolved texts (Ok (named, given)) ×
    AgreeInLoser named given a b
Agree (Verify order role) texts a b =
    (file : FileData) × (c : CircuitData) × ReadsVerified texts file c × AgreeAsLosing (IsLosing order role file c) a b
Agree (VerifyTlsf role) texts a b =
    (spec : Specification) × (c : CircuitData) × ReadsSpecified texts spec c ×
    AgreeAsLosing (LosesSpecified role spec c) a b
Agree (Shrink order role) texts a b =
    (file : FileData) × (c : CircuitData) × ReadsVerified texts file c ×
    AgreeOnCircuit (IsWinning order role file) (IsLosing order role file) c a b
Agree (ShrinkTlsf role) texts a b =
    (spec : Specification) × (c : CircuitData) × ReadsSpecified texts spec c ×
    AgreeOnCircuit (WinsSpecified role spec) (LosesSpecified role spec) c a b
Agree (Solve compact) text a b = (game : NamedGameData) × ReadsGameText text (Ok game) × AgreeInWinners compact game a b
Agree (Cert order compact) text a b =
    (game : NamedGameData) × ReadsGameOf order text (Ok game) × AgreeInWinners compact game a b
Agree (Synth asked) texts a b =
    (text : List ℕ) × AsksFor asked.cert texts text × AgreeAsReports asked.order asked.full asked.compact text a b
Agree line.Agree texts a b =
    (spec : Specification) × (file : FileData) × ReadsCompared texts spec file × AgreeAsDiffering spec file a b
Agree Translate text a b = AgreeAsTranslations text a b
Agree SynthTlsf text a b = AgreeInRole text a b
Agree line texts a b = a ≡ b

abbrev pub IsFaultReply : Reply → Type 0
IsFaultReply reply = (line : List ℕ) × (reply ≡ fault_reply line)

-- two answers agree; if the command calls a solver, one of them may report a fault in place of agreeing
abbrev pub AgreeOrFault : Line → List ℕ → Reply → Reply → Type 0
AgreeOrFault (Judge compact) texts a b = Agree (Judge compact) texts a b
AgreeOrFault (Verify order role) texts a b = Agree (Verify order role) texts a b
AgreeOrFault (VerifyTlsf role) texts a b = Agree (VerifyTlsf role) texts a b
AgreeOrFault (Shrink order role) texts a b = Agree (Shrink order role) texts a b
AgreeOrFault (ShrinkTlsf role) texts a b = Agree (ShrinkTlsf role) texts a b
AgreeOrFault line.Agree texts a b = Agree line.Agree texts a b
AgreeOrFault line texts a b = IsFaultReply a ⊎ IsFaultReply b ⊎ Agree line texts a b

-- Any two answers to the same input are equal, unless the input's command allows several answers (`IsUndetermined`).
-- If the command allows several answers, any two answers agree, except for a solver's faults (`AgreeOrFault`).
abbrev pub HasOneAnswer : Finders → Type 0
HasOneAnswer finders = (input : List ℕ) (a b : Reply) → AnswersWhole finders input a → AnswersWhole finders input b
    → (a ≡ b) ⊎ ((line : Line) × IsLine (first_line input) line × IsUndetermined line (behind_line input) ×
    AgreeOrFault line (behind_line input) a b)

-- if `synth` is given a certificate, and its solver only returns the result of parsing that certificate, there is one
-- answer
abbrev pub HasOneCertified : Finders → Type 0
HasOneCertified finders = IsReplaying finders.solvers.replay → (asked : SynthLine) → asked.cert ≡ true →
    (input : List ℕ) →
    IsLine (first_line input) (Synth asked)
    → (a b : Reply) → AnswersWhole finders input a → AnswersWhole finders input b → a ≡ b

-- the number of texts that a command reads with the given flags
abbrev pub text_count : Usage → (Text → Bool) → ℕ
text_count usage given = length usage.texts + length (filter (λ each. given each.0) usage.added)

-- a command with fewer texts than it needs has one answer, which reports the missing text; flags that exclude each
-- other are refused before any text is read
abbrev pub NeedsItsTexts : Finders → Type 0
NeedsItsTexts finders =
    AllByRecursion (λ usage. (given : Text → Bool) (texts : List ℕ) (outcome : Result Reply (List ℕ)) →
    usage.line given ≢ Refused → HasFewerSeparators (text_count usage given - 1) texts →
    AnswersLine finders (usage.line given) texts outcome → outcome ≡ Err missing_text) commands
