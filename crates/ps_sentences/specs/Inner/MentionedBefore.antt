-- The propositions that the formulas of a table's first nodes mention.
use Rattle.std.specs.Prelude.{ℕ, ◌<◌, List, length, slice_index}
use Rattle.ps_formula.specs.Formulas.{Formula, nth}
use Rattle.ps_sentences.specs.Mentions.{AreMentioned}

-- the letters are those of the first formulas of a list
pub record EachMentioned (known : List Formula) (letters : List ℕ) : Type 0 where
  pub each : (k : ℕ) → k < length letters → AreMentioned (nth known k) (slice_index letters k)
