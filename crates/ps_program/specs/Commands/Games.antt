-- The commands that print the game of an automaton, and a certificate of that game.
-- - `AnswersGameText order text`: what the program answers to the command `game`
-- - `AnswersCert solver order compact text`: what the program answers to the command `cert`
use Rattle.std.specs.Prelude.{◌≡◌, ℕ, Bool, List, Result, Ok, Err}
use Rattle.ps_game.specs.Games.{NamedGameData}
use Rattle.ps_hoa.specs.Files.{FileData}
use Rattle.ps_machine.specs.FileGames.{IsGameOfFile}
use Rattle.ps_solver.specs.Solvers.{SolverData}
use Rattle.ps_machine.specs.declared.key.Order.{Order}
use Rattle.ps_pgsolver.specs.Written.{game_text}
use Rattle.ps_program.specs.Automata.{ReadsAutomaton}
use Rattle.ps_program.specs.Outcomes.{Then}
use Rattle.ps_program.specs.Replies.{Reply, text_reply}
use Rattle.ps_program.specs.Commands.Solving.{AnswersGame}

-- the game of a file's automaton; making the game reports no fault
abbrev pub MakesGame : Order → FileData → Result NamedGameData (List ℕ) → Type 0
MakesGame order file (Ok game) = IsGameOfFile order file game
MakesGame order file (Err line) = ⊥

abbrev pub ReadsGameOf : Order → List ℕ → Result NamedGameData (List ℕ) → Type 0
ReadsGameOf order text = Then (ReadsAutomaton text) (MakesGame order)

abbrev pub AnswersGameText : Order → List ℕ → Result Reply (List ℕ) → Type 0
AnswersGameText order text = Then (ReadsGameOf order text) (λ game outcome. outcome ≡ Ok (text_reply (game_text game)))

-- the answer to `cert`: the certificate of an automaton's game, printed with all its counts, or as a compact text
-- without the counts that are 0
abbrev pub AnswersCert : SolverData → Order → Bool → List ℕ → Result Reply (List ℕ) → Type 0
AnswersCert solver order compact text = Then (ReadsGameOf order text) (AnswersGame solver compact)
