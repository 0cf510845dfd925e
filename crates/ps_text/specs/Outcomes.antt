-- The outcome of parsing a grammar at the start of a list of symbols, and the statement that each text has an answer.
-- - `Outcome causes part all`: the list `all` begins with a text of the grammar and no error, or the grammar has a
--   first fault in `all`
-- - `HasOutcomes causes part`: the grammar has an outcome for each list of symbols
-- - `IsOrderly causes part`: the symbols before each error of the grammar begin a text, and a symbol that is an error
--   wherever it occurs is in no text and has no other error
-- - `HasSomeAnswer IsText IsCause number`: each text has an answer: its meaning or its first error
--
-- The outcome does not depend on memory: it is the result of a parser that does not run out of memory.
use Rattle.std.specs.Prelude.{◌≡◌, ℕ, List, ◌∷◌, ◌++◌, Option, Some, Result}
use Rattle.ps_text.specs.Answers.{Begins, Stream, Found, Answers}
use Rattle.ps_text.specs.Parts.{Part, Causes, IsRead, IsFault}

pub data Outcome {T V F : Type 0} (causes : Causes T F) (part : Part T V F) (all : List T) : Type 0 where
  was_read : (v : V) (rest : List T) → IsRead part all v rest → Outcome causes part all
  has_fault : (f : F) (rest : List T) → IsFault causes part all f rest → Outcome causes part all

pub record HasOutcomes {T V F : Type 0} (causes : Causes T F) (part : Part T V F) : Type 0 where
  pub outcome : (all : List T) → Outcome causes part all

-- A symbol that is an error wherever it occurs is in no text of the grammar, and the grammar has no error of its own at
-- such a symbol. The symbols before each error of the grammar begin a text of the grammar.
pub record IsOrderly {T V F : Type 0} (causes : Causes T F) (part : Part T V F) : Type 0 where
  pub behind : (front : List T) (t : T) (f : F) → part.IsCause front t f → Begins part.IsText front
  pub in_no_text : (front rest : List T) (t : T) (v : V) (f : F) → part.IsText (front ++ t ∷ rest) v →
      causes.own t ≡ Some f → ⊥
  pub no_cause : (front : List T) (t : T) (f g : F) → part.IsCause front t f → causes.own t ≡ Some g → ⊥

-- each text has an answer: its meaning, if it has no error, or its first error
abbrev pub HasSomeAnswer : {T V F : Type 0} → (List T → V → Type 0) → (List T → Option T → F → Type 0) → (F → ℕ) →
    Type 0
HasSomeAnswer {T} {V} {F} IsText IsCause number = (stream : Stream T) →
    (answer : Result V (Found F)) × Answers IsText IsCause number stream answer
