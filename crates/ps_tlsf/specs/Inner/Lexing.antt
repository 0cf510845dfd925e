-- What the functions that scan for tokens state.
use Rattle.std.specs.Prelude.{◌≡◌, ℕ, ◌<◌, ◌≤◌, List, [], ◌∷◌, length, drop, Option, None, Some, slice_range}
use Rattle.ps_tlsf.specs.Lexicon.{lex, Token}
use Rattle.ps_tlsf.specs.declared.tokens.Step.{Step}
use Rattle.ps_tlsf.specs.declared.tokens.Step.TheVariants.{Skip, Found}
use Rattle.ps_tlsf.specs.declared.tokens.Lexeme.{Lexeme}

abbrev pub Within : ℕ → Step → Type 0
Within most (Skip n) = (0 < n) × (n ≤ most)
Within most (Found sign n) = (0 < n) × (n ≤ most)

-- `found` is the given step, and goes on by at least one byte and at most `most` bytes
pub record IsStep (step : Step) (most : ℕ) (found : Step) : Type 0 where
  pub value : found ≡ step
  pub within : Within most found

-- the token that a lexeme of the code stands for
abbrev pub token_of : List ℕ → Lexeme → Token
token_of source found =
    record {
      sign = found.sign;
      text = slice_range source found.start found.stop;
      start = found.start;
      stop = found.stop;
    }

-- the first token from the offset `from` on
pub record IsFirst (source : List ℕ) (from : ℕ) (found : Lexeme) : Type 0 where
  pub from_start : from ≤ found.start
  pub some : found.start < found.stop
  pub within : found.stop ≤ length source
  pub tokens : lex from (drop from source) ≡ token_of source found ∷ lex found.stop (drop found.stop source)

abbrev pub IsFirstOf : List ℕ → ℕ → Option Lexeme → Type 0
IsFirstOf source from None = lex from (drop from source) ≡ []
IsFirstOf source from (Some found) = IsFirst source from found
