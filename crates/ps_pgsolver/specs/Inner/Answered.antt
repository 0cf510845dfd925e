-- The results of the functions that parse one token of a game text, and what each parsing function establishes about
-- its part of the grammar.
use Rattle.std.specs.Prelude.{ℕ, Bool, true, List, Option, None, Some, Result, Ok, Err, IfOk, nat_lt, if◌then◌else◌}
use Rattle.ps_text.specs.Answers.{Stream, Found}
use Rattle.ps_text.specs.Parts.{Part, PartAnswers}
use Rattle.ps_text.specs.Readers.{Meets}
use Rattle.ps_text.specs.Readers.{Reads as WasRead}
pub use Rattle.ps_text.specs.Faults.{found_of}
use Rattle.ps_pgsolver.specs.GameTexts.{pg_causes, too_large, game}
use Rattle.ps_pgsolver.specs.Nodes.{NodeData, KnowsAll, is_member}
use Rattle.ps_pgsolver.specs.Signs.{Sign, Number, Name, Semicolon, OpenName}
use Rattle.ps_pgsolver.specs.declared.fault.PgCause.{PgCause}
use Rattle.ps_pgsolver.specs.declared.fault.PgCause.TheVariants as causes
use Rattle.ps_pgsolver.specs.Causes.{PgFault}
use Rattle.ps_text.specs.declared.faults.Fault.TheVariants as faults

-- the function parsed a part of the grammar, starting at `old` and ending at `new`, or it located the first error of
-- this part
abbrev pub ReadsAs : {V X : Type 0} → (X → V) → Part Sign V PgCause → Stream Sign → Result X PgFault →
    Stream Sign → Type 0
ReadsAs view part old result new = Meets found_of pg_causes view part old result new

-- parsing gives the same value for every list of known ids that contains all successors in this value
abbrev pub ReadsKnown : {V X : Type 0} → (List ℕ → V → Type 0) → (X → V) → (Option (List ℕ) → Part Sign V PgCause) →
    Stream Sign → Result X PgFault → Stream Sign → Type 0
ReadsKnown Knows view part old result new =
    IfOk result (λ x. (ids : List ℕ) → Knows ids (view x) → WasRead (part (Some ids)) old (view x) new)

-- One more item is parsed, so that the list `before` grows to `after`. If a list of known ids contains all successors
-- in `after`, it contains all those in `before`, and parsing the same item with these known ids gives `after` again.
abbrev pub AddsKnown : {V X : Type 0} → (List ℕ → V → Type 0) → V → V → (Option (List ℕ) → Part Sign V PgCause) →
    Stream Sign → Result X PgFault → Stream Sign → Type 0
AddsKnown Knows before after part old result new =
    IfOk result (λ _. (ids : List ℕ) → Knows ids after → Knows ids before × WasRead (part (Some ids)) old after new)

abbrev pub is_known : Option (List ℕ) → ℕ → Bool
is_known None n = true
is_known (Some ids) n = is_member ids n

-- the result of a function that expects a number, if it finds a given token, or the end of the text, at an offset
abbrev pub number_answer : Option Sign → ℕ → Result ℕ PgFault
number_answer (Some (Number n)) at = if nat_lt n too_large then Ok n else Err (faults.Text causes.Number at)
number_answer _ at = Err (faults.Text causes.Syntax at)

abbrev pub id_of_number : List ℕ → ℕ → ℕ → Result ℕ PgFault
id_of_number ids at n = if is_member ids n then Err (faults.Text causes.NodeTwice at) else Ok n

abbrev pub owner_of_number : ℕ → ℕ → Result ℕ PgFault
owner_of_number at n = if nat_lt n 2 then Ok n else Err (faults.Text causes.Number at)

abbrev pub successor_of_number : Option (List ℕ) → ℕ → ℕ → Result ℕ PgFault
successor_of_number known at n = if is_known known n then Ok n else Err (faults.Text causes.UnknownSuccessor at)

infixl 10 ◌>>=◌
abbrev pub ◌>>=◌ : {A B : Type 0} → Result A PgFault → (A → Result B PgFault) → Result B PgFault
(Ok x) >>= f = f x
(Err e) >>= f = Err e

abbrev pub id_answer : List ℕ → Option Sign → ℕ → Result ℕ PgFault
id_answer ids sign at = number_answer sign at >>= id_of_number ids at

abbrev pub owner_answer : Option Sign → ℕ → Result ℕ PgFault
owner_answer sign at = number_answer sign at >>= owner_of_number at

abbrev pub successor_answer : Option (List ℕ) → Option Sign → ℕ → Result ℕ PgFault
successor_answer known sign at = number_answer sign at >>= successor_of_number known at

abbrev pub first_answer : Option (List ℕ) → Option Sign → ℕ → Result ℕ PgFault
first_answer known (Some Semicolon) at = Err (faults.Text causes.NoSuccessor at)
first_answer known (Some (Name inner)) at = Err (faults.Text causes.NoSuccessor at)
first_answer known (Some OpenName) at = Err (faults.Text causes.NoSuccessor at)
first_answer known sign at = successor_answer known sign at

abbrev pub semicolon_answer : Option Sign → ℕ → Result (Unit {0}) PgFault
semicolon_answer (Some Semicolon) at = Ok tt
semicolon_answer _ at = Err (faults.Text causes.Syntax at)

abbrev pub end_answer : Option Sign → ℕ → Result (Unit {0}) PgFault
end_answer None at = Ok tt
end_answer (Some sign) at = Err (faults.Text causes.Syntax at)

-- a fault that parsing a whole text returns is the grammar's first error in the text, unless it is out of memory
abbrev pub FaultAnswers : Option (List ℕ) → Stream Sign → Option (Found PgCause) → Type 0
FaultAnswers known stream None = Unit {0}
FaultAnswers known stream (Some found) = PartAnswers pg_causes (game known) stream (Err found)

abbrev pub TextAnswers : Option (List ℕ) → Stream Sign → Result (List NodeData) PgFault → Type 0
TextAnswers known stream (Ok nodes) = PartAnswers pg_causes (game known) stream (Ok nodes)
TextAnswers known stream (Err fault) = FaultAnswers known stream (found_of fault)

-- if a text is parsed as a list of nodes, parsing it with any list of known ids that contains all successors of these
-- nodes gives the same nodes
abbrev pub KnownAnswers : Stream Sign → Result (List NodeData) PgFault → Type 0
KnownAnswers stream result =
    IfOk result (λ nodes. (ids : List ℕ) → KnowsAll ids nodes →
    PartAnswers pg_causes (game (Some ids)) stream (Ok nodes))
