-- The tokens of a game text as the grammar sees them: values of type `Sign`.
use Rattle.std.specs.Prelude.{ℕ, List}

pub data Sign : Type 0 where
  Number : ℕ → Sign
  Word : List ℕ → Sign
  Name : List ℕ → Sign
  Comma : Sign
  Semicolon : Sign
  -- a name without its closing quote
  OpenName : Sign
  -- any other token that is allowed nowhere in a game text
  Wrong : Sign
