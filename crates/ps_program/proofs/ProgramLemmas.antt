-- A lemma about what the whole program writes.
use Rattle.std.proofs.Common.{arith, ◌≡◌, ◌≤◌, ℕ, Bool, false, List, length}
use Rattle.std.specs.Prelude.{Option}
use Rattle.ps_program.specs.Input.{AgreesWith, input_limit}
use Rattle.ps_program.specs.Program.{AnswersInput, Replies}
use Rattle.ps_program.specs.Replies.{Reply}
use Rattle.ps_program.specs.Finders.{Finders}

-- an answer to an input is also an answer of the program that reads this input from a source
pub replies_answer : (finders : Finders) (known : Option (List ℕ)) (has_failed : Bool) (input : List ℕ) (reply : Reply)
    → has_failed ≡ false → AgreesWith known input → length input ≤ input_limit → AnswersInput finders input reply →
    Replies finders known has_failed reply
replies_answer finders known has_failed input reply sound agrees small answers = grind arith
