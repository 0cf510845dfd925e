-- The results of the functions that parse one token of a solution, and what each parsing function establishes about its
-- part of the grammar.
use Rattle.std.specs.Prelude.{ℕ, List, Option, None, Some, Result, Ok, Err, nat_lt, if◌then◌else◌, ◌&&◌, not}
use Rattle.ps_text.specs.Answers.{Stream}
use Rattle.ps_text.specs.Parts.{PartAnswers}
use Rattle.ps_text.specs.Readers.{Meets}
use Rattle.ps_text.specs.Faults.{found_of}
use Rattle.ps_text.specs.declared.faults.Fault.TheVariants.{Text, OutOfMemory}
use Rattle.ps_ids.specs.Ids.{place_of}
use Rattle.ps_game.specs.Regions.{has}
use Rattle.ps_certificate.specs.Faults.{CertFault}
use Rattle.ps_certificate.specs.declared.fault.CertCause.TheVariants.{Syntax, OtherGame}
use Rattle.ps_pgsolver.specs.GameTexts.{too_large}
use Rattle.ps_pgsolver.specs.Nodes.{is_member}
use Rattle.ps_pgsolver.specs.Signs.{Sign, Number, Semicolon}
use Rattle.ps_solution.specs.Solved.{SolvedData}
use Rattle.ps_solution.specs.Texts.{Field, solution_causes, solution}

-- the function parsed a part of the grammar, starting at `old` and ending at `new`, or it located the first error of
-- this part
abbrev pub ReadsAs : {V X : Type 0} → (X → V) → Field V → Stream Sign → Result X CertFault → Stream Sign → Type 0
ReadsAs view part old result new = Meets found_of solution_causes view part old result new

-- the result of a function that expects a number, if it finds a given token, or the end of the text, at an offset. The
-- argument `judge` gives the result for a number that fits in 64 bits
abbrev pub value_answer : {V : Type 0} → (ℕ → ℕ → Result V CertFault) → Option Sign → ℕ → Result V CertFault
value_answer judge (Some (Number n)) at = if nat_lt n too_large then judge at n else Err (Text Syntax at)
value_answer judge _ at = Err (Text Syntax at)

abbrev pub any_of_number : ℕ → ℕ → Result ℕ CertFault
any_of_number at n = Ok n

abbrev pub vertex_of_number : List ℕ → SolvedData → ℕ → ℕ → Result ℕ CertFault
vertex_of_number ids s at n =
    if is_member ids n && not (has s.named (place_of ids n)) then Ok (place_of ids n) else Err (Text OtherGame at)

abbrev pub winner_of_number : ℕ → ℕ → Result ℕ CertFault
winner_of_number at n = if nat_lt n 2 then Ok n else Err (Text Syntax at)

abbrev pub successor_of_number : List ℕ → ℕ → ℕ → Result ℕ CertFault
successor_of_number ids at n = if is_member ids n then Ok (place_of ids n) else Err (Text OtherGame at)

abbrev pub semicolon_answer : Option Sign → ℕ → Result (Unit {0}) CertFault
semicolon_answer (Some Semicolon) at = Ok tt
semicolon_answer _ at = Err (Text Syntax at)

abbrev pub end_answer : Option Sign → ℕ → Result (Unit {0}) CertFault
end_answer None at = Ok tt
end_answer (Some sign) at = Err (Text Syntax at)

-- a result of parsing a whole text, other than out of memory, is the grammar's answer: the entries, or the first error
abbrev pub TextAnswers : List ℕ → Stream Sign → Result SolvedData CertFault → Type 0
TextAnswers ids stream (Ok solved) = PartAnswers solution_causes (solution ids) stream (Ok solved)
TextAnswers ids stream (Err (Text cause offset)) =
    PartAnswers solution_causes (solution ids) stream (Err (record { cause = cause; offset = offset }))
TextAnswers ids stream (Err OutOfMemory) = Unit {0}
