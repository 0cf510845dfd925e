-- Conditions on certificates and on a solver's answer r for a game, and the data (`SolverData`) of two solvers.
-- - `IsCertified game c`: the certificate fits the game and is valid
-- - `winner_at_start c`: the winner of vertex 0
-- - `AnswersSurely game r`: r is what a sure solver answers: a valid certificate that fits the game, or out of memory
-- - `AnswersLeast game r`: r is what psyn's own solver answers: a valid certificate whose counts (the numbers that
--   prove it) are the least for its moves, or out of memory
-- - `IsFree solver`: the solver may give each answer that psyn's own solver may give
-- - `NamesVertices game r`: if the answer is a cycle, it has at least one vertex, and all its vertices are vertices of
--   the game
-- - `Replays game fed r`: the answer is the result of parsing the text that was fed
-- - `own_solver`: the data (`SolverData`) of psyn's own solver
-- - `replay_of text`: the data (`SolverData`) of a solver that was fed `text`, and only parses it
use Rattle.std.specs.Prelude.{ℕ, ◌<◌, true, false, List, length, Option, None, Some, Result, Ok, Err}
use Rattle.std.specs.List.{All}
use Rattle.ps_game.specs.Games.{NamedGameData, vertex_count}
use Rattle.ps_certificate.specs.Certificates.{CertificateData, winner_of, Fits, IsValid}
use Rattle.ps_certificate.specs.Least.{HasLeastCounts}
use Rattle.ps_certificate.specs.Texts.{ReadsCertificate}
use Rattle.ps_solver.specs.Solvers.{SolverData, Answered}
use Rattle.ps_solver.specs.declared.fault.SolveFault.{SolveFault}
use Rattle.ps_solver.specs.declared.fault.SolveFault.TheVariants.{BadCycle, Text, OutOfMemory}

pub record IsCertified (game : NamedGameData) (certificate : CertificateData) : Type 0 where
  pub fits : Fits game.game certificate
  pub valid : IsValid game.game certificate

abbrev pub winner_at_start : CertificateData → ℕ
winner_at_start certificate = winner_of certificate 0

abbrev pub AnswersSurely : NamedGameData → Result CertificateData SolveFault → Type 0
AnswersSurely game (Ok certificate) = IsCertified game certificate
AnswersSurely game (Err OutOfMemory) = Unit {0}
AnswersSurely game (Err (BadCycle cycle)) = ⊥
AnswersSurely game (Err (Text cause offset)) = ⊥

abbrev pub AnswersLeast : NamedGameData → Result CertificateData SolveFault → Type 0
AnswersLeast game (Ok certificate) = IsCertified game certificate × HasLeastCounts game.game certificate
AnswersLeast game (Err fault) = AnswersSurely game (Err fault)

abbrev pub IsFree : SolverData → Type 0
IsFree solver = (game : NamedGameData) (answer : Result CertificateData SolveFault) → AnswersLeast game answer →
    Answered solver solver game answer

abbrev pub NamesVertices : NamedGameData → Result CertificateData SolveFault → Type 0
NamesVertices game (Ok certificate) = Unit {0}
NamesVertices game (Err OutOfMemory) = Unit {0}
NamesVertices game (Err (BadCycle cycle)) = (0 < length cycle.items) × All (λ v. v < vertex_count game.game) cycle.items
NamesVertices game (Err (Text cause offset)) = Unit {0}

abbrev pub ReplaysText : NamedGameData → List ℕ → Result CertificateData SolveFault → Type 0
ReplaysText game text (Ok certificate) = ReadsCertificate game text (Ok certificate)
ReplaysText game text (Err OutOfMemory) = Unit {0}
ReplaysText game text (Err (BadCycle cycle)) = ⊥
ReplaysText game text (Err (Text cause offset)) =
    ReadsCertificate game text (Err (record { cause = cause; offset = offset }))

abbrev pub Replays : NamedGameData → Option (List ℕ) → Result CertificateData SolveFault → Type 0
Replays game None r = ⊥
Replays game (Some text) r = ReplaysText game text r

abbrev pub own_solver : SolverData
own_solver = record {
  is_sure = true;
  fed = None;
  may_answer = λ fed game answer. AnswersLeast game answer;
  gave = λ game answer. Unit {0};
}

abbrev pub replay_of : List ℕ → SolverData
replay_of text = record {
  is_sure = false;
  fed = Some text;
  may_answer = λ fed game answer. Replays game fed answer;
  gave = λ game answer. Unit {0};
}
