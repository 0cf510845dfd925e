-- A command is answered in steps. The result of a step is a value, or the line that reports the first fault, without
-- the newline that ends the line.
use Rattle.std.specs.Prelude.{◌≡◌, ◌⊎◌, ⊤, ℕ, List, Result, Ok, Err}
use Rattle.ps_text.specs.Answers.{Found}
use Rattle.ps_program.specs.declared.answer.Answer.{Answer}
use Rattle.ps_program.specs.declared.answer.Refusal.{Refusal}
use Rattle.ps_program.specs.declared.answer.Refusal.TheVariants as refusal
use Rattle.ps_program.specs.Faults.{fault_text, text_line}
use Rattle.ps_program.specs.Replies.{Reply, reply_of, fault_reply}

-- two steps one after the other: the second takes the value of the first; if the first fails, its fault is the result
-- of both
abbrev pub Then : {V W : Type 0} → (Result V (List ℕ) → Type 0) → (V → Result W (List ℕ) → Type 0) →
    Result W (List ℕ) → Type 0
Then {V} {W} step next outcome = ((line : List ℕ) × step (Err line) × (outcome ≡ Err line))
    ⊎ ((value : V) × step (Ok value) × next value outcome)

-- the result of a parser, in which an error is a line with the error's number, name and offset
abbrev pub Reading : {V C : Type 0} → (C → ℕ) → (C → List ℕ) → (Result V (Found C) → Type 0) →
    Result V (List ℕ) → Type 0
Reading number name reads (Ok value) = reads (Ok value)
Reading {V} {C} number name reads (Err line) =
    (found : Found C) × reads (Err found) × (line ≡ text_line (number found.cause) (name found.cause) found.offset)

-- the text that is printed for an answer or for a fault
abbrev pub printed : Result Reply (List ℕ) → Reply
printed (Ok reply) = reply
printed (Err line) = fault_reply line

-- a function of the code returns a possible result of the step, or runs out of memory
abbrev pub Gives : {X V : Type 0} → (X → V) → (Result V (List ℕ) → Type 0) → Result X Refusal → Type 0
Gives view step (Ok value) = step (Ok (view value))
Gives view step (Err (refusal.Fault fault)) = step (Err (fault_text fault))
Gives view step (Err refusal.OutOfMemory) = ⊤

-- the program's answer is what is printed for the result of a command
abbrev pub Settles : Result Answer Refusal → Answer → Type 0
Settles (Ok given) answer = reply_of answer ≡ reply_of given
Settles (Err (refusal.Fault fault)) answer = reply_of answer ≡ fault_reply (fault_text fault)
Settles (Err refusal.OutOfMemory) answer = ⊥
