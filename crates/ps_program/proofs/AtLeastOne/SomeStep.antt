-- Two steps in a row have a result if the first step has a result, and the second step has a result for each value that
-- the first may give.
-- - `HasSome step`: the step has an outcome
-- - `then_some`, `ended_some`, `reading_some`: each of these has an outcome: two steps one after the other, a step that
--   ends with a value, and a parser
-- - `HasOnly`, `then_only`: each value that the step may return has a property
use Rattle.std.proofs.Common.{◌≡◌, ℕ, List, Result, Ok, Err, refl, inl, inr}
use Rattle.ps_text.specs.Answers.{Found}
use Rattle.ps_program.specs.Faults.{text_line}
use Rattle.ps_program.specs.Outcomes.{Then, Reading}
use Rattle.ps_program.proofs.AtMostOne.OneStep.{ok_is_not_err}

abbrev pub HasSome : {V : Type 0} → (V → Type 0) → Type 0
HasSome {V} step = (outcome : V) × step outcome

-- two steps in a row have a result if the first step has a result, and the second step has a result for each value that
-- the first may give
pub then_some : {V W : Type 0} (step : Result V (List ℕ) → Type 0) (next : V → Result W (List ℕ) → Type 0) →
    HasSome step → ((v : V) → step (Ok v) → HasSome (next v)) → HasSome (Then step next)
then_some {V} {W} step next (Err line, s) more = (Err line, inl (line, s, refl))
then_some {V} {W} step next (Ok v, s) more = let x = more v s in (x.0, inr (v, s, x.1))

pub ended_some : {W : Type 0} (end : Result W (List ℕ)) → HasSome {V = Result W (List ℕ)} (λ outcome. outcome ≡ end)
ended_some end = (end, refl)

pub reading_some : {V C : Type 0} (number : C → ℕ) (name : C → List ℕ) (reads : Result V (Found C) → Type 0) →
    HasSome reads → HasSome (Reading number name reads)
reading_some number name reads (Ok v, h) = (Ok v, h)
reading_some number name reads (Err found, h) =
    (Err (text_line (number found.cause) (name found.cause) found.offset), (found, h, refl))

-- each value that the step may return has the property `Good`
abbrev pub HasOnly : {V : Type 0} → (Result V (List ℕ) → Type 0) → (V → Type 0) → Type 0
HasOnly {V} step Good = (v : V) → step (Ok v) → Good v

pub then_only : {V W : Type 0} (step : Result V (List ℕ) → Type 0) (next : V → Result W (List ℕ) → Type 0)
    (Good : W → Type 0) → ((v : V) → step (Ok v) → HasOnly (next v) Good) → HasOnly (Then step next) Good
then_only step next Good each w (inl (line, s, e)) = absurd (ok_is_not_err w line e)
then_only step next Good each w (inr (v, s, n)) = each v s w n
