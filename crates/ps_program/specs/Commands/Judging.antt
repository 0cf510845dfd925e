-- The command that judges a solution of a game.
-- - `ReadsSolved texts`: the text of a game, and the text of a solution of that game
-- - `Judges compact named given`: what `judge` prints: the solution's certificate, or the line that refuses the
--   solution
-- - `AnswersJudge compact texts`: what the program answers to the command `judge`
use Rattle.std.specs.Prelude.{◌≡◌, ◌⊎◌, ℕ, Bool, List, Result, Ok, Err, codes, map}
use Rattle.ps_game.specs.Games.{NamedGameData, IsGame}
use Rattle.ps_certificate.specs.declared.flaw.Flaw.{Flaw}
use Rattle.ps_certificate.specs.Certificates.{CertificateData, IsFirstFlaw}
use Rattle.ps_certificate.specs.Faults as certificate
use Rattle.ps_certificate.specs.Written.{text_in}
use Rattle.ps_referee.specs.Solutions.{claimed, IsSolution, IsCycleOf, IsCertificateOf}
use Rattle.ps_solution.specs.Reading.{ReadsSolution}
use Rattle.ps_solution.specs.Solved.{SolutionData}
use Rattle.ps_program.specs.Faults.{line_text, ids_text}
use Rattle.ps_program.specs.Outcomes.{Then, Reading}
use Rattle.ps_program.specs.Replies.{Reply, text_reply}
use Rattle.ps_program.specs.Texts.{ReadsForGame, id_of, flaw_text}

-- the result of parsing a text as a solution of the game: the solution, or the line that reports the first error
abbrev pub ReadsSolutionText : NamedGameData → List ℕ → Result SolutionData (List ℕ) → Type 0
ReadsSolutionText named text =
    Reading certificate.cause_number certificate.cause_name (ReadsSolution named.ids text)

abbrev pub ReadsSolved : List ℕ → Result (NamedGameData × SolutionData) (List ℕ) → Type 0
ReadsSolved texts = ReadsForGame ReadsSolutionText texts

-- the solution's winners and moves as a certificate without counts; the solution has one list of moves for both players
abbrev pub claim : NamedGameData → SolutionData → CertificateData
claim named given = claimed named.game given.won given.moves given.moves

-- the line that reports a cycle that makes a player lose; its vertices are named by their ids
abbrev pub cycle_text : NamedGameData → List ℕ → List ℕ
cycle_text named cycle = line_text 40 (codes "BadCycle") (ids_text (map (id_of named) cycle))

-- No move or edge of the solution is wrong, but a play in which `player` follows the solution can repeat `cycle` for
-- ever, and `player` loses this play.
abbrev pub Loses : NamedGameData → SolutionData → ℕ → List ℕ → Type 0
Loses named given player cycle = IsCycleOf named.game given.won given.moves given.moves player cycle

abbrev pub LosesCycle : NamedGameData → SolutionData → Type 0
LosesCycle named given = (player : ℕ) × (cycle : List ℕ) × Loses named given player cycle

-- the line that reports why a solution is refused: its first flaw, or a cycle that makes a player lose
abbrev pub IsRefusalLine : NamedGameData → SolutionData → List ℕ → Type 0
IsRefusalLine named given line =
    ((flaw : Flaw) × IsFirstFlaw named.game (claim named given) flaw × (line ≡ flaw_text named flaw))
    ⊎ ((player : ℕ) × (cycle : List ℕ) × Loses named given player cycle × (line ≡ cycle_text named cycle))

-- what `judge` prints: the solution's certificate (with all its counts, or compact, without the counts that are 0), or
-- the line that refuses the solution
abbrev pub Judges : Bool → NamedGameData → SolutionData → Result Reply (List ℕ) → Type 0
Judges compact named given (Ok reply) = IsSolution named.game given.won given.moves given.moves
    × ((certificate : CertificateData) × IsCertificateOf named.game given.won given.moves given.moves certificate ×
    (reply ≡ text_reply (text_in compact named certificate)))
Judges compact named given (Err line) = IsGame named.game × IsRefusalLine named given line

abbrev pub AnswersJudge : Bool → List ℕ → Result Reply (List ℕ) → Type 0
AnswersJudge compact texts = Then (ReadsSolved texts) (λ both. Judges compact both.0 both.1)
