-- What the contract of a parsing function states: a text of the function's grammar was parsed, or the grammar's first
-- fault was found. `old` and `new` are the pieces of the text (symbols with their offsets) that are unread when the
-- function begins and when it returns.
-- - `Meets found causes view part old result new`: the contract of a parsing function with any types of value and error
-- - `Parses causes part old result new`: the same contract for a function that returns the grammar's own values and
--   errors
-- - `Carries causes whole start rest now`: each result of parsing `rest` from the pieces `now` is a result of parsing
--   `whole` from the pieces `start`
-- - `tail stream`: the stream without its next piece
-- - `refusal_at causes stream`: the error, with its offset, that the next symbol or the end of the stream is not
--   allowed
use Rattle.std.specs.Prelude.{◌≡◌, List, [], ◌∷◌, ◌++◌, Option, None, Some, Result, Ok, Err}
use Rattle.ps_text.specs.Answers.{Piece, Stream, Found, signs, next_of, offset_of}
use Rattle.ps_text.specs.Parts.{Part, Causes, IsRead, IsFault, refusal_of}

-- the stream's pieces without the first one
abbrev pub tail_of : {T : Type 0} → List (Piece T) → List (Piece T)
tail_of [] = []
tail_of (p ∷ ps) = ps

abbrev pub tail : {T : Type 0} → Stream T → Stream T
tail stream = record { pieces = tail_of stream.pieces; end = stream.end }

abbrev pub refusal_at : {T F : Type 0} → Causes T F → Stream T → Found F
refusal_at causes stream =
    record { cause = refusal_of causes (next_of stream); offset = offset_of stream.pieces stream.end }

-- `new` is what remains of `old` after some pieces were taken
pub record IsSuffix {T : Type 0} (old new : Stream T) : Type 0 where
  pub taken : List (Piece T)
  pub split : old.pieces ≡ taken ++ new.pieces
  pub end : new.end ≡ old.end

-- the first fault of the grammar in the pieces of `old` is at the first piece of `rest`, or at the end
pub record StopsWith {T V F : Type 0} (causes : Causes T F) (part : Part T V F) (old : Stream T)
    (found : Found F) : Type 0 where
  pub front : List (Piece T)
  pub rest : List (Piece T)
  pub split : old.pieces ≡ front ++ rest
  pub fault : IsFault causes part (signs old.pieces) found.cause (signs rest)
  pub offset : found.offset ≡ offset_of rest old.end

abbrev pub Stops : {T V F : Type 0} → Causes T F → Part T V F → Stream T → Option (Found F) → Type 0
Stops causes part old None = Unit {0}
Stops causes part old (Some found) = StopsWith causes part old found

-- a text of the grammar was parsed from the start of `old`, with the value v, and `new` is what remains
abbrev pub Reads : {T V F : Type 0} → Part T V F → Stream T → V → Stream T → Type 0
Reads part old v new = IsSuffix old new × IsRead part (signs old.pieces) v (signs new.pieces)

-- `view` maps the function's value to the value of the grammar. `found` maps an error of the function to the error of
-- the text, or to None if the program is out of memory.
abbrev pub Meets : {T V F X E : Type 0} → (E → Option (Found F)) → Causes T F → (X → V) → Part T V F → Stream T →
    Result X E → Stream T → Type 0
Meets found causes view part old (Ok x) new = Reads part old (view x) new
Meets found causes view part old (Err e) new = Stops causes part old (found e)

-- the result is Ok with the value of the text that was parsed, Err with the first fault of the grammar, or Err with
-- None if the program is out of memory
abbrev pub Parses : {T V F : Type 0} → Causes T F → Part T V F → Stream T → Result V (Option (Found F)) →
    Stream T → Type 0
Parses causes part old (Ok v) new = Reads part old v new
Parses causes part old (Err o) new = Stops causes part old o

abbrev pub Carries : {T V F : Type 0} → Causes T F → Part T V F → Stream T → Part T V F → Stream T → Type 0
Carries {T} {V} {F} causes whole start rest now = (result : Result V (Option (Found F))) (new : Stream T) →
    Parses causes rest now result new → Parses causes whole start result new
