-- Each text of a solution has an answer: a solution, or the first error.
use Rattle.std.proofs.Common.{◌≡◌, ℕ, ◌<◌, inl, inr, zero, suc, List, length, None}
use Rattle.std.proofs.Common.{Result, Ok, Err, true, refl, arith}
use Rattle.ps_text.specs.Answers.{Stream, Found}
use Rattle.ps_text.specs.Parts.{PartAnswers, NoBad, one}
use Rattle.ps_text.specs.Outcomes.{HasOutcomes}
use Rattle.ps_text.proofs.ParsedAnswers.Outcomes.{Judged, good, has_give, has_one, has_mapped, has_then, has_either}
use Rattle.ps_text.proofs.ParsedAnswers.Outcomes.{has_many}
use Rattle.ps_text.proofs.ParsedAnswers.Outcomes.{some_answer}
use Rattle.ps_text.proofs.ParsedAnswers.Decisions.{Decided, decide_not, decide_below, decide_in, decide_one}
use Rattle.ps_text.proofs.ParsedAnswers.Decisions.{decide_true}
use Rattle.ps_text.proofs.ParsedAnswers.Decisions.{judge_cause, judge_one, judge_also, judge_none}
use Rattle.ps_ids.specs.Ids.{place_of}
use Rattle.ps_game.specs.Regions.{has}
use Rattle.ps_certificate.specs.Faults.{cause_number}
use Rattle.ps_certificate.specs.declared.fault.CertCause.{CertCause}
use Rattle.ps_certificate.specs.declared.fault.CertCause.TheVariants.{Syntax, OtherGame}
use Rattle.ps_pgsolver.specs.GameTexts.{too_large, semicolon_in, keyword_in}
use Rattle.ps_pgsolver.specs.Lexer.{stream_of}
use Rattle.ps_pgsolver.specs.Signs.{Sign, Number, Word, Semicolon}
use Rattle.ps_pgsolver.proofs.ReadGames.GameLaws.{takes_word}
use Rattle.ps_pgsolver.proofs.TokensOfGames.GameTokens.{tokens_found}
use Rattle.ps_solution.specs.Reading.{ReadsSolution, refused, incomplete, meaning}
use Rattle.ps_solution.specs.Solved.{SolvedData, SolutionData, IsFilled, solution_of}
use Rattle.ps_solution.specs.Texts.{Field, solution_causes, value_in, BadValue, AnyValue, IsBadVertex, IsNoPlayer}
use Rattle.ps_solution.specs.Texts.{IsUnknown}
use Rattle.ps_solution.specs.Texts.{number, vertex, winner, successor, semicolon, keyword, choice, entry, entries}
use Rattle.ps_solution.specs.Texts.{value_line, heading, solution}
use Rattle.ps_solution.proofs.SolutionLaws.{paritysol, move_of, laws_move, laws_no_move, joint_choice, joint_winner}
use Rattle.ps_solution.proofs.SolutionLaws.{joint_vertex, laws_entry, start_of, joint_entries, joint_value, joint_line}
use Rattle.ps_solution.proofs.SolutionLaws.{laws_line, laws_no_line, joint_solution, laws_solution}

abbrev Has : {V : Type 0} → Field V → Type 0
Has part = HasOutcomes solution_causes part

no_bad : (t : Sign) → Judged cause_number (NoBad {T = Sign} t)
no_bad t = good (λ f b. b)

-- the errors of a number token are decidable if the errors of the number's value are decidable
module _ (Wrong : ℕ → CertCause → Type 0) (judge : (n : ℕ) → Judged cause_number (Wrong n)) where
  judge_value : (t : Sign) → Judged cause_number (BadValue Wrong t)
  judge_value (Number n) = judge_one cause_number (judge_cause cause_number Syntax (decide_below too_large n))
      (judge_also cause_number (decide_below (suc n) too_large) (judge n))
  judge_value _ = good (λ f b. b)

  has_value : {V : Type 0} (value : ℕ → V) → Has (one (value_in value) (BadValue Wrong))
  has_value value = has_one solution_causes (value_in value) (BadValue Wrong) (Number 0) (value 0) refl judge_value

has_number : Has number
unfolding number
has_number = has_value AnyValue (λ n. judge_none cause_number) (λ n. n)

has_winner : Has winner
unfolding winner
has_winner = has_value IsNoPlayer (λ n. judge_cause cause_number Syntax (decide_below 2 n)) (λ n. n)

has_semicolon : Has semicolon
unfolding semicolon
has_semicolon = has_one solution_causes semicolon_in NoBad Semicolon tt refl no_bad

has_keyword : Has (keyword paritysol)
unfolding keyword
has_keyword =
    has_one solution_causes (keyword_in paritysol) NoBad (Word paritysol) tt (takes_word paritysol) no_bad

module _ (ids : List ℕ) where
  has_vertex : (s : SolvedData) → Has (vertex ids s)
  unfolding vertex
  has_vertex s = has_value (IsBadVertex ids s) (λ n. judge_cause cause_number OtherGame
      (decide_one (decide_not (decide_in ids n)) (decide_true (has s.named (place_of ids n))))) (place_of ids)

  has_successor : Has (successor ids)
  unfolding successor
  has_successor = has_value (IsUnknown ids)
      (λ n. judge_cause cause_number OtherGame (decide_not (decide_in ids n))) (place_of ids)

  has_choice : Has (choice ids)
  unfolding choice
  has_choice = has_either solution_causes (laws_move ids) (laws_no_move ids) (λ t h k. k)
      (has_mapped solution_causes move_of (successor ids) has_successor) (has_give solution_causes None)

  has_entry : (s : SolvedData) → Has (entry ids s)
  unfolding entry
  has_entry s = has_then solution_causes (joint_vertex ids s) (has_vertex s) (λ v. has_then solution_causes
      (joint_winner ids s v) has_winner (λ w. has_then solution_causes (joint_choice ids s v w) has_choice
      (λ c. has_mapped solution_causes _ semicolon has_semicolon)))

  has_entries : Has (entries ids)
  unfolding entries
  has_entries = has_then solution_causes (joint_entries ids) (has_entry (start_of ids))
      (λ s. has_many solution_causes (entry ids) (laws_entry ids) (λ t h k. h) has_entry s)

has_value_line : Has value_line
unfolding value_line
has_value_line = has_then solution_causes joint_value has_number (λ _. has_semicolon)

has_heading : Has heading
unfolding heading
has_heading = has_either solution_causes laws_line laws_no_line (λ t h k. k)
    (has_then solution_causes joint_line has_keyword (λ _. has_value_line)) (has_give solution_causes tt)

module _ (ids : List ℕ) where
  has_solution : Has (solution ids)
  unfolding solution
  has_solution = has_then solution_causes (joint_solution ids) has_heading (λ _. has_entries ids)

  some_solved : (stream : Stream Sign) →
      (answer : Result SolvedData (Found CertCause)) × PartAnswers solution_causes (solution ids) stream answer
  some_solved = some_answer (laws_solution ids) has_solution

-- it is decidable whether the entries that were read include one for each vertex
decide_whole : (s : SolvedData) → Decided (IsFilled s)
decide_whole s = up_to (length s.named)
  where
    up_to : (n : ℕ) → Decided ((v : ℕ) → v < n → has s.named v ≡ true)
    up_to zero = inl (λ v below. absurd (omega arith))
    up_to (suc n) = go (up_to n) (decide_true (has s.named n))
      where
        go : Decided ((v : ℕ) → v < n → has s.named v ≡ true) → Decided (has s.named n ≡ true) →
            Decided ((v : ℕ) → v < suc n → has s.named v ≡ true)
        go (inr none) d = inr (λ h. none (λ v below. h v (omega arith)))
        go (inl before) (inr other) = inr (λ h. other (h n (omega arith)))
        go (inl before) (inl last) = inl (λ v below. grind arith)

pub some_reading : (ids text : List ℕ) →
    (answer : Result SolutionData (Found CertCause)) × ReadsSolution ids text answer
some_reading ids text = let one = some_solved ids (stream_of text) in go one.0 one.1
  where
    whole : (s : SolvedData) → PartAnswers solution_causes (solution ids) (stream_of text) (Ok s) →
        Decided (IsFilled s) → (answer : Result SolutionData (Found CertCause)) × ReadsSolution ids text answer
    whole s p (inl w) = (Ok (solution_of s), meaning (stream_of text) s (tokens_found text) p w refl)
    whole s p (inr n) = (
      Err (record { cause = OtherGame; offset = length text }),
      incomplete (stream_of text) s (tokens_found text) p n refl,
    )

    go : (one : Result SolvedData (Found CertCause)) →
        PartAnswers solution_causes (solution ids) (stream_of text) one →
        (answer : Result SolutionData (Found CertCause)) × ReadsSolution ids text answer
    go (Ok s) p = whole s p (decide_whole s)
    go (Err f) p = (Err f, refused (stream_of text) f (tokens_found text) p refl)
