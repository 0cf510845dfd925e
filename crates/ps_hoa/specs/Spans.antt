-- The tokens, and their offsets in the text.
use Rattle.std.specs.Prelude.{◌≡◌, ℕ, ◌+◌, ◌≤◌, List, ◌++◌, length, drop, slice_range}
use Rattle.ps_text.specs.Answers.{Piece}
use Rattle.ps_hoa.specs.Scan.{IsLexeme}
use Rattle.ps_hoa.specs.Tokens.{Sign, IsBlankRun, kind_here}
use Rattle.ps_hoa.specs.declared.tokens.Kind.{Kind}
use Rattle.ps_hoa.specs.declared.tokens.History.{History}
use Rattle.ps_hoa.specs.declared.tokens.Lexeme.{Lexeme}
use Rattle.ps_hoa.specs.declared.tokens.Token.{Token}

-- the kind and the bytes of a token, which are all that the grammar sees of it
abbrev pub piece_of : Token → Piece Sign
piece_of token = record { sign = record { kind = token.kind; text = token.text.now }; start = token.start }

-- the text of the token is the source between the token's two offsets
pub record IsSpan (source : List ℕ) (token : Token) : Type 0 where
  pub rises : token.start ≤ token.stop
  pub within : token.stop ≤ length source
  pub text : token.text.now ≡ slice_range source token.start token.stop

-- the text has the token at the given offsets, and `kind` is its kind after the tokens that `history` records
pub record IsKindHere (source : List ℕ) (history : History) (kind : Kind) (found : Lexeme) : Type 0 where
  pub lexeme : IsLexeme source found
  pub here : kind ≡ kind_here history found.kind (slice_range source found.start found.stop)

-- the bytes between two offsets of a text are blanks and comments
pub record AreBlanks (source : List ℕ) (from at : ℕ) : Type 0 where
  pub blanks : List ℕ
  pub run : IsBlankRun blanks
  pub split : drop from source ≡ blanks ++ drop at source
  pub end : at ≡ from + length blanks
