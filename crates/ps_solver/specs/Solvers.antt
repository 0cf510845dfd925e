-- The definitions by which contracts describe a solver: the answers that it may give for a game, and the text that it
-- was given before (fed).
-- - `MayAnswer`: a relation between a game and the answers that a solver may give for it
-- - `SolverData`: whether a solver is sure, the text that it was fed, the answers that it may give, and the answer that
--   it gave last
-- - `once_fed text solver`: the data of the solver after it was fed `text`
-- - `answers_now solver`: the answers that the solver may give for a game, given the text that it was fed last
-- - `Answered old new`: what is known of the answer to a game after a call of the solver, with its data before (`old`)
--   and after (`new`): the data before the call allowed this answer, and the data after it record that it was given
-- - `IsKept old new`: a call, with the solver's data before (`old`) and after (`new`) it, changes neither whether the
--   solver is sure nor its text; each answer that is allowed after the call was allowed before
use Rattle.std.specs.Prelude.{◌≡◌, ℕ, Bool, List, Option, None, Some, Result}
use Rattle.ps_certificate.specs.Certificates.{CertificateData}
use Rattle.ps_game.specs.Games.{NamedGameData}
use Rattle.ps_solver.specs.declared.fault.SolveFault.{SolveFault}

abbrev pub MayAnswer : Type 1
MayAnswer = NamedGameData → Result CertificateData SolveFault → Type 0

pub record SolverData : Type 1 where
  -- whether the solver is sure: all its certificates fit the game and are valid, and it fails only if memory runs out
  pub is_sure : Bool
  -- the text that the solver was fed last, at first the empty text; None for a solver that ignores every text
  pub fed : Option (List ℕ)
  -- the possible answers of the solver for a game, if the given text was the last one that it was fed
  pub may_answer : Option (List ℕ) → MayAnswer
  -- the relation that holds for a game and an answer if the solver gave this answer last; it always holds if the solver
  -- keeps no record
  pub gave : MayAnswer

-- the text that a solver has after it was fed `text`: this text, unless the solver ignores every text (`None`)
abbrev pub fed_with : List ℕ → Option (List ℕ) → Option (List ℕ)
fed_with text None = None
fed_with text (Some old) = Some text

abbrev pub once_fed : List ℕ → SolverData → SolverData
once_fed text solver = record {
  is_sure = solver.is_sure;
  fed = fed_with text solver.fed;
  may_answer = solver.may_answer;
  gave = solver.gave;
}

abbrev pub answers_now : SolverData → MayAnswer
answers_now solver = solver.may_answer solver.fed

abbrev pub Answered : SolverData → SolverData → MayAnswer
Answered old new game answer = answers_now old game answer × new.gave game answer

pub record IsKept (old new : SolverData) : Type 0 where
  pub steady : new.is_sure ≡ old.is_sure
  pub kept : new.fed ≡ old.fed
  pub same : (text : Option (List ℕ)) (game : NamedGameData) (answer : Result CertificateData SolveFault) →
      new.may_answer text game answer → old.may_answer text game answer
