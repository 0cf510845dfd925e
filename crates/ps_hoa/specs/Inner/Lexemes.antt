-- The first token from an offset of a text on.
use Rattle.std.specs.Prelude.{◌≡◌, ℕ, ◌≤◌, List, drop}
use Rattle.ps_hoa.specs.Scan.{IsLexeme, lex}
use Rattle.ps_hoa.specs.Spans.{AreBlanks}
use Rattle.ps_hoa.specs.declared.tokens.Lexeme.{Lexeme}

-- only blanks and comments come between the offset and the token
pub record IsFirstLexeme (source : List ℕ) (from : ℕ) (found : Lexeme) : Type 0 where
  pub blanks : AreBlanks source from found.start
  pub rises : from ≤ found.start
  pub here : IsLexeme source found
  pub same : lex found.start (drop found.start source) ≡ lex from (drop from source)
