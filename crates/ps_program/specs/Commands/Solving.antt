-- The command that solves a game with a given solver.
use Rattle.std.specs.Prelude.{◌≡◌, ℕ, Bool, false, List, Some, Result, Ok, Err}
use Rattle.ps_game.specs.Games.{NamedGameData}
use Rattle.ps_certificate.specs.Certificates.{CertificateData}
use Rattle.ps_certificate.specs.Written.{text_in}
use Rattle.ps_solver.specs.Solvers.{SolverData, answers_now}
use Rattle.ps_solver.specs.Solving.{IsCertified}
use Rattle.ps_synthesis.specs.Stages.{IsSolverFault}
use Rattle.ps_synthesis.specs.declared.fault.SynthFault.{SynthFault}
use Rattle.ps_program.specs.Outcomes.{Then}
use Rattle.ps_program.specs.Replies.{Reply, text_reply}
use Rattle.ps_program.specs.StageFaults.{stage_line}
use Rattle.ps_program.specs.Texts.{ReadsGameText}

-- The result of solving a game: a valid certificate that fits the game and that the solver may return, or the line that
-- reports the solver's fault. If the solver is sure, the result is a certificate: a sure solver returns only valid
-- certificates that fit the game, unless memory runs out.
abbrev pub Certifies : SolverData → NamedGameData → Result CertificateData (List ℕ) → Type 0
Certifies solver named (Ok certificate) = IsCertified named certificate × answers_now solver named (Ok certificate)
Certifies solver named (Err line) = (fault : SynthFault) × IsSolverFault (answers_now solver) named fault
    × (solver.is_sure ≡ false) × (stage_line fault ≡ Some line)

-- solves the game and prints the solver's certificate, either with all its counts, or as a compact text without the
-- counts that are 0
abbrev pub AnswersGame : SolverData → Bool → NamedGameData → Result Reply (List ℕ) → Type 0
AnswersGame solver compact named =
    Then (Certifies solver named) (λ certificate outcome. outcome ≡ Ok (text_reply (text_in compact named certificate)))

-- what the program answers to the command `solve`; `compact` states whether the flag `--compact` is given
abbrev pub AnswersSolve : SolverData → Bool → List ℕ → Result Reply (List ℕ) → Type 0
AnswersSolve solver compact text = Then (ReadsGameText text) (AnswersGame solver compact)
