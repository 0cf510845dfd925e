-- For each command except `verify`, `shrink`, `agree`, `translate` and `synth --tlsf`, and under conditions on the
-- solvers, each input has an answer: some reply (the printed bytes and the exit status) meets the definition of an
-- answer.
-- - `HasReply finders input`: some reply is an answer to the input
-- - `IsPlainLine line`: the line is of one of the other commands, and calls no solver
-- - `HasSomeLine`: each first line has a meaning as a `Line`
-- - `HasSomeAnswer finders`: each input has an answer, if its first line is plain (`IsPlainLine`)
-- - `MayCertify solver`: for each game, some valid certificate is a possible answer of the solver
-- - `MayReplay solver`: once the solver was given the text of a certificate, the result of parsing this text is a
--   possible answer of the solver, even if the certificate is wrong
-- - `HasSomeSolved finders`: if `MayCertify` holds for the built-in solver, each input with the command `solve` or
--   `cert` has an answer
-- - `OfEachSynthesis solver asked text P`: P holds of the game, the certificate and the circuit of each answer that the
--   command `synth` may print
-- - `FitsInWords s`: the numbers in the texts of a game, a certificate and a circuit fit in 64 bits
-- - `HasSomeSynthesis finders`: an input with the command `synth` has an answer under two conditions. `MayCertify` or
--   `MayReplay` holds for the solver that `synth` calls. `IsPrinted` holds for each valid certificate that the solver
--   may return, and for the winner's circuit that it gives
use Rattle.std.specs.Prelude.{◌≡◌, ⊤, ℕ, Bool, true, false, List, Some, Result, Ok}
use Rattle.ps_certificate.specs.Certificates.{CertificateData}
use Rattle.ps_certificate.specs.Written.{HasWords}
use Rattle.ps_game.specs.Games.{IsGame, IsNamedGame, NamedGameData}
use Rattle.ps_hoa.specs.Files.{FileData}
use Rattle.ps_machine.specs.FileGames.{IsGameOfFile}
use Rattle.ps_solver.specs.Solvers.{SolverData, answers_now, once_fed}
use Rattle.ps_solver.specs.Solving.{IsCertified, Replays}
use Rattle.ps_solver.specs.declared.fault.SolveFault.{SolveFault}
use Rattle.ps_synthesis.specs.Printing.{HasCircuitWords, HasGameWords}
use Rattle.ps_synthesis.specs.Promises.{IsAcceptedText, SynthesisData}
use Rattle.ps_synthesis.specs.Reports.{IsWinnersCircuit}
use Rattle.ps_program.specs.declared.commands.Line.{Line}
use Rattle.ps_program.specs.declared.commands.Line.TheVariants.{Refused, Help, Closed, Check, Judge, Sim, Lasso}
use Rattle.ps_program.specs.declared.commands.Line.TheVariants.{LassoTlsf, Game, Solve, Cert, Synth}
use Rattle.ps_program.specs.declared.commands.SynthLine.{SynthLine}
use Rattle.ps_program.specs.CommandLine.{IsLine}
use Rattle.ps_program.specs.Cut.{behind_line, first_line}
use Rattle.ps_program.specs.Program.{AnswersInput}
use Rattle.ps_program.specs.Replies.{Reply}
use Rattle.ps_program.specs.Finders.{Finders}
use Rattle.ps_program.specs.Solvers.{Solvers}
use Rattle.ps_program.specs.Commands.Synthesis.{IsPrinted}
use Rattle.ps_program.specs.Texts.{CutsInTwo}

abbrev pub HasReply : Finders → List ℕ → Type 0
HasReply finders input = (reply : Reply) × AnswersInput finders input reply

-- ---- commands that call no solver

abbrev pub IsPlainLine : Line → Type 0
IsPlainLine Refused = ⊤
IsPlainLine Help = ⊤
IsPlainLine Closed = ⊤
IsPlainLine Check = ⊤
IsPlainLine (Judge compact) = ⊤
IsPlainLine Sim = ⊤
IsPlainLine (Lasso role) = ⊤
IsPlainLine (LassoTlsf role) = ⊤
IsPlainLine (Game order) = ⊤
IsPlainLine line = ⊥

abbrev pub HasSomeLine : Type 0
HasSomeLine = (first_line : List ℕ) → (line : Line) × IsLine first_line line

abbrev pub HasSomeAnswer : Finders → Type 0
HasSomeAnswer finders =
    (input : List ℕ) (line : Line) → IsLine (first_line input) line → IsPlainLine line → HasReply finders input

-- ---- commands that call a solver

abbrev pub MayCertify : SolverData → Type 0
MayCertify solver = (game : NamedGameData) → IsGame game.game →
    (certificate : CertificateData) × IsCertified game certificate × answers_now solver game (Ok certificate)

pub record MayReplay (solver : SolverData) : Type 0 where
  pub unsure : solver.is_sure ≡ false
  pub replays : (text : List ℕ) (game : NamedGameData) (answer : Result CertificateData SolveFault) →
      Replays game (Some text) answer → answers_now (once_fed text solver) game answer

-- the command line asks for the certificate of a game: `solve` or `cert`
abbrev pub IsSolved : Line → Type 0
IsSolved (Solve compact) = ⊤
IsSolved (Cert order compact) = ⊤
IsSolved line = ⊥

abbrev pub HasSomeSolved : Finders → Type 0
HasSomeSolved finders = MayCertify finders.solvers.built_in → (input : List ℕ) (line : Line) →
    IsLine (first_line input) line → IsSolved line → HasReply finders input

-- P holds for the automaton's game, each valid certificate that this solver may return for the game, and the winner's
-- circuit that the certificate gives
abbrev pub OfEachSynthesis : SolverData → SynthLine → List ℕ → (SynthesisData → Type 0) → Type 0
OfEachSynthesis solver asked text P = (file : FileData) (s : SynthesisData)
    (is_game : IsGameOfFile asked.order file s.game) → IsAcceptedText text file →
    answers_now solver s.game (Ok s.certificate) → IsCertified s.game s.certificate →
    IsWinnersCircuit asked.order file s.game is_game s.certificate s.circuit → P s

abbrev pub IsPrintedBy : SolverData → SynthLine → List ℕ → Type 0
IsPrintedBy solver asked text = OfEachSynthesis solver asked text (IsPrinted asked.full asked.compact)

-- the game is well-formed, and the numbers in the texts of the game, the certificate and the circuit fit in 64 bits
pub record FitsInWords (s : SynthesisData) : Type 0 where
  pub well_formed : IsNamedGame s.game
  pub game : HasGameWords s.game
  pub certificate : HasWords s.game.ids s.certificate
  pub circuit : HasCircuitWords s.circuit

-- if the numbers of all three values fit in 64 bits, parsing their texts gives the values again
abbrev pub ArePrinted : SolverData → Type 0
ArePrinted solver = (asked : SynthLine) (text : List ℕ) → OfEachSynthesis solver asked text FitsInWords →
    IsPrintedBy solver asked text

-- the solver that `synth` calls meets its condition (`MayCertify`, or with `--cert` `MayReplay`), and `IsPrinted` holds
-- for each valid certificate that it may return
abbrev pub MaySynthesise : (cert : Bool) → Solvers → SynthLine → List ℕ → Type 0
MaySynthesise false solvers asked texts = MayCertify solvers.built_in × IsPrintedBy solvers.built_in asked texts
MaySynthesise true solvers asked texts = MayReplay solvers.replay
    × ((text certificate : List ℕ) → CutsInTwo texts (Ok (text, certificate)) →
    IsPrintedBy (once_fed certificate solvers.replay) asked text)

abbrev pub HasSomeSynthesis : Finders → Type 0
HasSomeSynthesis finders = (input : List ℕ) (asked : SynthLine) → IsLine (first_line input) (Synth asked) →
    MaySynthesise asked.cert finders.solvers asked (behind_line input) → HasReply finders input
