-- The results of a command's steps make up the result of the command.
use Rattle.std.proofs.Common.{rules, arith, ◌≡◌, ℕ, List, Result, Ok, Err, IsErrAnd}
use Rattle.std.specs.Prelude.{IfOk, OnOk}
use Rattle.ps_text.specs.Answers.{Found}
use Rattle.ps_text.specs.Faults.{UnlessMemory}
use Rattle.ps_text.specs.declared.faults.Fault.{Fault}
use Rattle.ps_text.specs.declared.faults.Fault.TheVariants as fault
use Rattle.ps_program.specs.declared.answer.Answer.{Answer}
use Rattle.ps_program.specs.declared.answer.Refusal.{Refusal}
use Rattle.ps_program.specs.declared.answer.Refusal.TheVariants as refusal
use Rattle.ps_program.specs.Outcomes.{Gives, Reading, Settles, Then, printed}
use Rattle.ps_program.specs.Refusals.{IsRefusalOf}
use Rattle.ps_program.specs.Replies.{Reply, reply_of}

-- the program's answer is what is printed for some possible result of the command
settles_gives : (step : Result Reply (List ℕ) → Type 0) (outcome : Result Answer Refusal) (answer : Answer)
    → Gives reply_of step outcome → Settles outcome answer → (told : Result Reply (List ℕ)) × step told ×
    (reply_of answer ≡ printed told)
settles_gives step outcome answer h same = grind arith

-- if all possible results of the command, when printed, have a property, the program's answer has this property
pub settled : {E : Type 0} (step : Result Reply (List ℕ) → Type 0) (outcome : Result Answer Refusal)
    (result : Result Answer E) (P : Answer → Type 0)
    → Gives reply_of step outcome → IfOk result (Settles outcome) →
    ((answer : Answer) (told : Result Reply (List ℕ)) → step told → reply_of answer ≡ printed told → P answer) →
    IfOk result P
settled step outcome (Ok answer) P gives settles from =
    let told = settles_gives step outcome answer gives settles in from answer told.0 told.1 told.2
settled step outcome (Err e) P gives settles from = tt

-- if a function returns a fault unchanged, the fault is still a possible result of the step
pub gives_passed : {X V : Type 0} (view : X → V) (step : Result V (List ℕ) → Type 0) (outcome : Result X Refusal)
    (fault : Refusal)
    → IsErrAnd outcome (λ given. given ≡ fault) → Gives view step (Err fault) → Gives view step outcome
gives_passed view step (Ok given) fault passed h = absurd passed
gives_passed {X} view step (Err given) fault passed h = grind arith

-- a function that fails returns a possible fault of the step if its fault has a property P and each fault with P is
-- possible
pub gives_handed : {X V : Type 0} (view : X → V) (step : Result V (List ℕ) → Type 0) (outcome : Result X Refusal)
    (P : Refusal → Type 0)
    → IsErrAnd outcome P → ((fault : Refusal) → P fault → Gives {X = X} view step (Err fault)) → Gives view step outcome
gives_handed view step outcome P handed from = grind arith

-- an error of a parser becomes a fault whose line has the error's number, name and offset
pub gives_fault : {C X V : Type 0} (number : C → ℕ) (name : C → List ℕ) (reads : Result V (Found C) → Type 0)
    (view : X → V) (given : Fault C) (refused : Refusal)
    → UnlessMemory reads (Err given) → IsRefusalOf number name given refused →
    Gives view (Reading number name reads) (Err refused)
gives_fault number name reads view (fault.Text cause offset) (refusal.Fault line) answer same = search rules
gives_fault number name reads view (fault.Text cause offset) refusal.OutOfMemory answer same = absurd same
gives_fault number name reads view fault.OutOfMemory (refusal.Fault line) answer same = absurd same
gives_fault number name reads view fault.OutOfMemory refusal.OutOfMemory answer same = tt

-- a function that hands on the error of a parser returns a possible result of parsing
pub gives_parsed : {C X V : Type 0} (number : C → ℕ) (name : C → List ℕ) (reads : Result V (Found C) → Type 0)
    (view : X → V) (given : Fault C) (outcome : Result X Refusal)
    → UnlessMemory reads (Err given) → IsErrAnd outcome (IsRefusalOf number name given) →
    Gives view (Reading number name reads) outcome
gives_parsed number name reads view given outcome answer handed =
    gives_handed view (Reading number name reads) outcome (IsRefusalOf number name given) handed
    (λ refused same. gives_fault number name reads view given refused answer same)

-- if the first of two steps fails, its fault is the result of both steps together
pub gives_failed : {X V Y W : Type 0} (view : X → V) (step : Result V (List ℕ) → Type 0) (after : Y → W)
    (next : V → Result W (List ℕ) → Type 0) (refused : Refusal)
    → Gives {X = X} view step (Err refused) → Gives {X = Y} after (Then step next) (Err refused)
gives_failed view step after next refused h = grind arith

-- if the first of two steps succeeds, the result of the second step is the result of both together
pub gives_after : {V Y W : Type 0} (step : Result V (List ℕ) → Type 0) (after : Y → W)
    (next : V → Result W (List ℕ) → Type 0) (value : V) (outcome : Result Y Refusal)
    → step (Ok value) → Gives after (next value) outcome → Gives after (Then step next) outcome
gives_after step after next value outcome was h = grind arith

-- ---- commands that parse the first of their texts, and give a result for its value and all texts

-- a fault in the first text is the fault of the command
pub first_failed : {X P V Y W : Type 0} (view : X → V) (cut : Result P (List ℕ) → Type 0)
    (reads : P → Result V (List ℕ) → Type 0) (after : Y → W) (next : V → P → Result W (List ℕ) → Type 0) (parts : P)
    (refused : Refusal)
    → cut (Ok parts) → Gives {X = X} view (reads parts) (Err refused) →
    Gives {X = Y} after (Then cut (λ each. Then (reads each) (λ value. next value each))) (Err refused)
first_failed view cut reads after next parts refused were h =
    gives_after cut after (λ each. Then (reads each) (λ value. next value each)) parts (Err refused) were
    (gives_failed view (reads parts) after (λ value. next value parts) refused h)

-- if the first text is correct, the result for its value is the result of the command
pub first_read : {P V Y W : Type 0} (cut : Result P (List ℕ) → Type 0) (reads : P → Result V (List ℕ) → Type 0)
    (after : Y → W) (next : V → P → Result W (List ℕ) → Type 0) (parts : P) (value : V) (outcome : Result Y Refusal)
    → cut (Ok parts) → reads parts (Ok value) → Gives after (next value parts) outcome →
    Gives after (Then cut (λ each. Then (reads each) (λ value. next value each))) outcome
first_read cut reads after next parts value outcome were read h =
    gives_after cut after (λ each. Then (reads each) (λ value. next value each)) parts outcome were
    (gives_after (reads parts) after (λ value. next value parts) value outcome read h)

-- what holds anyway holds of each success
pub whenever : {V E : Type 0} {P : Type 0} (result : Result V E) → P → OnOk result P
whenever (Ok v) p = p
whenever (Err e) p = tt
