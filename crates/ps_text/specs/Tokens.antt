-- The tokens of a text, as a relation between its bytes and its pieces (tokens with their offsets). Each blank between
-- tokens is a single byte.
-- - `IsBlank b`: b is a byte that may occur between tokens
-- - `IsToken before sign text rest`: between the bytes `before` and `rest`, `text` is the token `sign`
-- - `AreTokens IsBlank IsToken bytes stream`: the bytes consist of the stream's tokens, with any number of blanks
--   before, between and after them
-- - `TokensDiffer IsBlank IsToken`: at most one token begins at a position, and no token begins with a blank
--
-- Each format defines its own `IsToken`. It states how a token depends on the bytes around it: for example, a number is
-- a longest run of digits. It also states which tokens are never allowed. By `TokensDiffer`, a text has at most one
-- list of tokens, as the law `one_tokenisation` states.
use Rattle.std.specs.Prelude.{◌≡◌, ℕ, List, [], ◌∷◌, ◌++◌, length}
use Rattle.std.specs.List.{AllByRecursion}
use Rattle.ps_text.specs.Answers.{Piece, Stream}

-- `piece` is the first token of `bytes`, after some blanks; `before` are the bytes of the text before `bytes`
pub record NextToken {T : Type 0} (IsBlank : ℕ → Type 0) (IsToken : List ℕ → T → List ℕ → List ℕ → Type 0)
    (before bytes : List ℕ) (piece : Piece T) : Type 0 where
  pub blanks : List ℕ
  pub text : List ℕ
  pub rest : List ℕ
  pub split : bytes ≡ blanks ++ (text ++ rest)
  pub are_blanks : AllByRecursion IsBlank blanks
  pub is_token : IsToken (before ++ blanks) piece.sign text rest
  pub start : piece.start ≡ length (before ++ blanks)

abbrev pub TokensFrom : {T : Type 0} → (ℕ → Type 0) → (List ℕ → T → List ℕ → List ℕ → Type 0) → List ℕ → List ℕ →
    List (Piece T) → Type 0
TokensFrom IsBlank IsToken before bytes [] = AllByRecursion IsBlank bytes
TokensFrom IsBlank IsToken before bytes (p ∷ ps) =
    (next : NextToken IsBlank IsToken before bytes p) × TokensFrom IsBlank IsToken
    (before ++ next.blanks ++ next.text) next.rest ps

abbrev pub AreTokens : {T : Type 0} → (ℕ → Type 0) → (List ℕ → T → List ℕ → List ℕ → Type 0) → List ℕ →
    Stream T → Type 0
AreTokens IsBlank IsToken bytes stream = TokensFrom IsBlank IsToken [] bytes stream.pieces × (stream.end ≡ length bytes)

pub record TokensDiffer {T : Type 0} (IsBlank : ℕ → Type 0) (IsToken : List ℕ → T → List ℕ → List ℕ → Type 0) : Type 0
  where
    pub begins : (before text rest : List ℕ) (t : T) → IsToken before t text rest →
        (b : ℕ) × (bs : List ℕ) × (text ≡ b ∷ bs) × (IsBlank b → ⊥)
    pub one : (before text rest text' rest' : List ℕ) (t u : T) → IsToken before t text rest →
        IsToken before u text' rest' →
        text ++ rest ≡ text' ++ rest' → (t ≡ u) × (text ≡ text')

-- a text has at most one list of tokens
abbrev pub HasOneTokenisation : {T : Type 0} → (ℕ → Type 0) → (List ℕ → T → List ℕ → List ℕ → Type 0) → Type 0
HasOneTokenisation {T} IsBlank IsToken =
    (bytes : List ℕ) (a b : Stream T) → AreTokens IsBlank IsToken bytes a → AreTokens IsBlank IsToken bytes b → a ≡ b
