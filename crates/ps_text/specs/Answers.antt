-- The answer to a text, for every format: the meaning of the text, or its first error.
-- - `Piece`, `Stream`: a piece is a symbol of a text with its offset; a stream is a text as the list of its pieces,
--   with the offset of its end
-- - `Begins IsText front`: some text of the grammar begins with the symbols `front`
-- - `NoneGoesOn IsText front there`: no text begins with `front` and the symbol `there`; if no symbol follows, `front`
--   is not a text
-- - `IsUnexpected IsText front there`: some text begins with `front`, but none continues with the symbol `there`
-- - `IsClean IsCause all`: the text has no error
-- - `IsFirst number IsCause front rest f`: f is the first error of the text, after the symbols `front` and before
--   `rest`
-- - `IsFirstAt number IsCause stream found`: like `IsFirst`, for symbols with offsets
-- - `Answers IsText IsCause number stream answer`: Ok with the meaning of the text, or Err with its first error
--
-- A format defines its symbols: a symbol is a token, a byte or a line, together with what a parser can see after it.
-- IsText states when a list of symbols is a text of the grammar, and what the text means. IsCause states when there is
-- an error after some symbols, at the next symbol or at the end. If there are two errors at one symbol, the error with
-- the smaller number is the answer.
use Rattle.std.specs.Prelude.{◌≡◌, ℕ, ◌<◌, ◌≤◌, ◌⊎◌, List, [], ◌∷◌, ◌++◌, map, length, Option, None, Some, Result, Ok}
use Rattle.std.specs.Prelude.{Err}

-- a symbol of a text, and the offset of its first byte
pub record Piece (T : Type 0) : Type 0 where
  pub sign : T
  pub start : ℕ

-- the pieces of a text, in order, and the offset at which the text ends
pub record Stream (T : Type 0) : Type 0 where
  pub pieces : List (Piece T)
  pub end : ℕ

-- an error and its offset
pub record Found (F : Type 0) : Type 0 where
  pub cause : F
  pub offset : ℕ

-- the symbols of the pieces, without their offsets
abbrev pub signs : {T : Type 0} → List (Piece T) → List T
signs ps = map (λ p. p.sign) ps

-- the next symbol, if there is one
abbrev pub first_of : {T : Type 0} → List T → Option T
first_of [] = None
first_of (t ∷ ts) = Some t

-- the next symbol of a stream, if there is one
abbrev pub next_of : {T : Type 0} → Stream T → Option T
next_of stream = first_of (signs stream.pieces)

-- the offset of the next piece, or of the end
abbrev pub offset_of : {T : Type 0} → List (Piece T) → ℕ → ℕ
offset_of [] end = end
offset_of (p ∷ ps) end = p.start

-- some text of the grammar begins with the symbols `front`
pub record Begins {T V : Type 0} (IsText : List T → V → Type 0) (front : List T) : Type 0 where
  pub more : List T
  pub value : V
  pub is_text : IsText (front ++ more) value

-- no text of the grammar begins with `front` and then the symbol `there`; if no symbol follows, `front` is not a text
-- of the grammar
abbrev pub NoneGoesOn : {T V : Type 0} → (List T → V → Type 0) → List T → Option T → Type 0
NoneGoesOn {T} {V} IsText front None = (v : V) → IsText front v → ⊥
NoneGoesOn IsText front (Some t) = Begins IsText (front ++ t ∷ []) → ⊥

-- some text of the grammar begins with `front`, but none with `front` and then `there`; if no symbol follows, `front`
-- is not a text
pub record IsUnexpected {T V : Type 0} (IsText : List T → V → Type 0) (front : List T) (there : Option T) : Type 0 where
  pub before : Begins IsText front
  pub none : NoneGoesOn IsText front there

-- there is no error anywhere in the text
abbrev pub IsClean : {T F : Type 0} → (List T → Option T → F → Type 0) → List T → Type 0
IsClean {T} {F} IsCause all = (front rest : List T) (f : F) → all ≡ front ++ rest → IsCause front (first_of rest) f → ⊥

-- f is an error at the first symbol of `rest`, or at the end of the text. Every other error of the text is later, or is
-- at the same position and its number is not smaller
pub record IsFirst {T F : Type 0} (number : F → ℕ) (IsCause : List T → Option T → F → Type 0) (front rest : List T)
    (f : F) : Type 0 where
  pub stands : IsCause front (first_of rest) f
  pub least : (front' rest' : List T) (g : F) → front ++ rest ≡ front' ++ rest' → IsCause front' (first_of rest') g →
      (length front < length front') ⊎ ((front ≡ front') × (number f ≤ number g))

-- the first error of a text whose symbols have offsets
pub record IsFirstAt {T F : Type 0} (number : F → ℕ) (IsCause : List T → Option T → F → Type 0) (stream : Stream T)
    (found : Found F) : Type 0 where
  pub front : List (Piece T)
  pub rest : List (Piece T)
  pub split : stream.pieces ≡ front ++ rest
  pub first : IsFirst number IsCause (signs front) (signs rest) found.cause
  pub offset : found.offset ≡ offset_of rest stream.end

-- Ok with the meaning of a text without errors, or Err with the first error
abbrev pub Answers : {T V F : Type 0} → (List T → V → Type 0) → (List T → Option T → F → Type 0) → (F → ℕ) →
    Stream T → Result V (Found F) → Type 0
Answers IsText IsCause number stream (Ok v) = IsText (signs stream.pieces) v × IsClean IsCause (signs stream.pieces)
Answers IsText IsCause number stream (Err found) = IsFirstAt number IsCause stream found

-- each list of symbols has at most one meaning as a text of the grammar
abbrev pub HasOneMeaning : {T V : Type 0} → (List T → V → Type 0) → Type 0
HasOneMeaning {T} {V} IsText = (text : List T) (v w : V) → IsText text v → IsText text w → v ≡ w

-- two causes with the same number are equal
abbrev pub AreNumbered : {F : Type 0} → (F → ℕ) → Type 0
AreNumbered {F} number = (f g : F) → number f ≡ number g → f ≡ g

-- any two answers to the same text are equal
abbrev pub HasOneAnswer : {T V F : Type 0} → (List T → V → Type 0) → (List T → Option T → F → Type 0) → (F → ℕ) → Type 0
HasOneAnswer {T} {V} {F} IsText IsCause number = (stream : Stream T) (a b : Result V (Found F)) →
    Answers IsText IsCause number stream a → Answers IsText IsCause number stream b → a ≡ b
