-- The program's answer to an input, and how the program writes this answer.
use Rattle.std.specs.Prelude.{◌≡◌, ◌≤◌, ◌<◌, ◌⊎◌, ℕ, Bool, true, false, List, length, Option, Result, Ok}
use Rattle.std.specs.Io.KnownBytes.{Appends}
use Rattle.ps_program.specs.declared.commands.Line.{Line}
use Rattle.ps_program.specs.declared.commands.Line.TheVariants.{Refused, Help, Closed, Check, Judge, Sim, Lasso}
use Rattle.ps_program.specs.declared.commands.Line.TheVariants.{LassoTlsf, Verify, VerifyTlsf, Shrink, ShrinkTlsf}
use Rattle.ps_program.specs.declared.commands.Line.TheVariants.{Agree, Game, Solve, Translate}
use Rattle.ps_program.specs.declared.commands.Line.TheVariants.{Cert, Synth, SynthTlsf}
use Rattle.ps_program.specs.CommandLine.{IsLine}
use Rattle.ps_program.specs.Commands.Checks.{AnswersClosed, AnswersCheck}
use Rattle.ps_program.specs.Commands.Comparing.{AnswersAgree}
use Rattle.ps_program.specs.Cut.{first_line, behind_line}
use Rattle.ps_program.specs.Commands.Games.{AnswersGameText, AnswersCert}
use Rattle.ps_program.specs.Input.{AgreesWith, input_limit}
use Rattle.ps_program.specs.Commands.Judging.{AnswersJudge}
use Rattle.ps_program.specs.Commands.Lassos.{AnswersLasso}
use Rattle.ps_program.specs.Outcomes.{printed}
use Rattle.ps_program.specs.Replies.{Reply, usage, help, read_fault, out_of_memory}
use Rattle.ps_program.specs.Commands.Satisfying.{AnswersLassoTlsf}
use Rattle.ps_program.specs.Commands.Shrinking.{AnswersShrink}
use Rattle.ps_program.specs.Commands.ShrinkingTlsf.{AnswersShrinkTlsf}
use Rattle.ps_program.specs.Commands.Simulating.{AnswersSim}
use Rattle.ps_program.specs.Finders.{Finders}
use Rattle.ps_program.specs.Commands.Solving.{AnswersSolve}
use Rattle.ps_program.specs.Streams.{SinkState, AppendsSome, Breaks}
use Rattle.ps_program.specs.Commands.Synthesis.{AnswersSynth}
use Rattle.ps_program.specs.Commands.SynthesisTlsf.{AnswersSynthTlsf}
use Rattle.ps_program.specs.Commands.TranslationTexts.{AnswersTranslate}
use Rattle.ps_program.specs.Commands.Verifying.{AnswersVerify}
use Rattle.ps_program.specs.Commands.VerifyingTlsf.{AnswersVerifyTlsf}

-- the answer to a command line and the texts after it; if the command uses a solver, the proposer or the translator,
-- the answer depends on what is known about it
abbrev pub AnswersLine : Finders → Line → List ℕ → Result Reply (List ℕ) → Type 0
AnswersLine finders Refused texts outcome = outcome ≡ Ok usage
AnswersLine finders Help texts outcome = outcome ≡ Ok help
AnswersLine finders Closed texts outcome = AnswersClosed texts outcome
AnswersLine finders Check texts outcome = AnswersCheck texts outcome
AnswersLine finders (Judge compact) texts outcome = AnswersJudge compact texts outcome
AnswersLine finders Sim texts outcome = AnswersSim texts outcome
AnswersLine finders (Lasso role) texts outcome = AnswersLasso role texts outcome
AnswersLine finders (LassoTlsf role) texts outcome = AnswersLassoTlsf role texts outcome
AnswersLine finders (Verify order role) texts outcome = AnswersVerify order role texts outcome
AnswersLine finders (VerifyTlsf role) texts outcome = AnswersVerifyTlsf role texts outcome
AnswersLine finders (Shrink order role) texts outcome = AnswersShrink order role texts outcome
AnswersLine finders (ShrinkTlsf role) texts outcome = AnswersShrinkTlsf role texts outcome
AnswersLine finders Agree texts outcome = AnswersAgree texts outcome
AnswersLine finders Translate text outcome = AnswersTranslate finders.translator text outcome
AnswersLine finders (Solve compact) texts outcome = AnswersSolve finders.solvers.built_in compact texts outcome
AnswersLine finders (Game order) texts outcome = AnswersGameText order texts outcome
AnswersLine finders (Cert order compact) texts outcome =
    AnswersCert finders.solvers.built_in order compact texts outcome
AnswersLine finders (Synth asked) texts outcome = AnswersSynth finders.solvers asked texts outcome
AnswersLine finders SynthTlsf text outcome = AnswersSynthTlsf finders.proposer text outcome

-- the answer to an input
abbrev pub AnswersInput : Finders → List ℕ → Reply → Type 0
AnswersInput finders input reply =
    (line : Line) × IsLine (first_line input) line
    × ((outcome : Result Reply (List ℕ)) × AnswersLine finders line (behind_line input) outcome ×
    (reply ≡ printed outcome))

-- the answer to an input; an input that is too long is answered by the line that reports a fault
abbrev pub AnswersWhole : Finders → List ℕ → Reply → Type 0
AnswersWhole finders input reply = ((input_limit < length input) × (reply ≡ read_fault))
    ⊎ ((length input ≤ input_limit) × AnswersInput finders input reply)

-- what the program answers to the input that a source gives: `read_fault` if a read failed, and otherwise an answer to
-- the input, or `out_of_memory`
abbrev pub Replies : Finders → Option (List ℕ) → Bool → Reply → Type 0
Replies finders known true reply = reply ≡ read_fault
Replies finders known false reply = (reply ≡ out_of_memory)
    ⊎ ((input : List ℕ) × AgreesWith known input × AnswersWhole finders input reply)

-- the program has written and flushed the whole answer
pub record WritesAll (before after : SinkState) (reply : Reply) (status : ℕ) : Type 0 where
  pub sound : after.has_failed ≡ false
  pub moving : after.has_stalled ≡ false
  pub text : Appends before.contents after.contents reply.text
  pub flushed : after.is_flushed ≡ true
  pub answered : status ≡ reply.status

-- a write or the flush failed, or a write accepted no bytes; the bytes written before are a prefix of the answer
pub record WritesPart (before after : SinkState) (reply : Reply) (status : ℕ) : Type 0 where
  pub broken : Breaks after.has_failed after.has_stalled
  pub text : AppendsSome before.contents after.contents reply.text
  pub refused : status ≡ 1

-- what the program wrote, and its exit status: the whole answer, or a prefix of it after a fault
abbrev pub Writes : SinkState → SinkState → Reply → ℕ → Type 0
Writes before after reply status =
    WritesAll before after reply status ⊎ WritesPart before after reply status
