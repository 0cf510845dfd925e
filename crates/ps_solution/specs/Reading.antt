-- The answer to the text of a solution: who wins each vertex and by which move, or the text's first error with its
-- offset.
use Rattle.std.specs.Prelude.{◌≡◌, ℕ, List, length, Result, Ok, Err}
use Rattle.ps_text.specs.Answers.{Stream, Found}
use Rattle.ps_text.specs.Parts.{PartAnswers}
use Rattle.ps_text.specs.Faults.{UnlessMemory}
use Rattle.ps_certificate.specs.Faults.{CertFault}
use Rattle.ps_certificate.specs.declared.fault.CertCause.{CertCause}
use Rattle.ps_certificate.specs.declared.fault.CertCause.TheVariants.{OtherGame}
use Rattle.ps_pgsolver.specs.GameTokens.{AreGameTokens}
use Rattle.ps_pgsolver.specs.Signs.{Sign}
use Rattle.ps_solution.specs.Solved.{SolvedData, SolutionData, IsFilled, solution_of}
use Rattle.ps_solution.specs.Texts.{solution_causes, solution}

-- the answer to the text of a solution, for a game whose vertices have the given ids
pub data ReadsSolution (ids text : List ℕ) (answer : Result SolutionData (Found CertCause)) : Type 0 where
  -- the text has an error, and the first error in the order of the text is reported
  refused : (stream : Stream Sign) (found : Found CertCause) → AreGameTokens text stream →
      PartAnswers solution_causes (solution ids) stream (Err found) → answer ≡ Err found → ReadsSolution ids text answer
  -- some vertex has no entry, which is reported at the end of the text if the text has no other error
  incomplete : (stream : Stream Sign) (solved : SolvedData) → AreGameTokens text stream →
      PartAnswers solution_causes (solution ids) stream (Ok solved) → ¬ IsFilled solved →
      answer ≡ Err (record { cause = OtherGame; offset = length text }) → ReadsSolution ids text answer
  -- the text has no error, so the answer is the solution that its entries define
  meaning : (stream : Stream Sign) (solved : SolvedData) → AreGameTokens text stream →
      PartAnswers solution_causes (solution ids) stream (Ok solved) → IsFilled solved →
      answer ≡ Ok (solution_of solved) → ReadsSolution ids text answer

-- what a call of the parser returns: the answer to the text, or out of memory
abbrev pub IsSolutionAnswer : List ℕ → List ℕ → Result SolutionData CertFault → Type 0
IsSolutionAnswer ids text result = UnlessMemory (ReadsSolution ids text) result
