-- The abstract value of a `TraceWord`.
use Rattle.std.specs.Prelude.{ℕ, List}

-- an infinite word of letters: those of the stem, and then those of the lap, which repeat for ever
pub record TraceWordData : Type 0 where
  pub stem : List ℕ
  pub lap : List ℕ
