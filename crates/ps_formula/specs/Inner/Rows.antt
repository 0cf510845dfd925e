-- Rows of bits: the truth of each formula at each index of a lasso. (For private functions.)
use Rattle.std.specs.Prelude.{◌≡◌, ◌≢◌, ℕ, ◌+◌, ◌*◌, ◌/◌, ◌%◌, ◌<◌, ◌==◌, ◌⊎◌, Bool, List, slice_index}
use Rattle.std.specs.Int.{bit_at}
use Rattle.ps_formula.specs.declared.rows.Rows.{Rows}

-- whether the bit with a number is set
abbrev pub bit_in : List ℕ → ℕ → Bool
bit_in words place = bit_at (slice_index words (place / 64)) (place % 64) == 1

-- the truth that a row has at an index
abbrev pub truth_in : Rows → (row at : ℕ) → Bool
truth_in rows row at = bit_in rows.words.items (row * rows.width + at)

-- the row has the truth at the index, and everything else stays
pub record SetsTruth (old : Rows) (row at : ℕ) (truth : Bool) (new : Rows) : Type 0 where
  pub count : new.count ≡ old.count
  pub stem : new.stem ≡ old.stem
  pub width : new.width ≡ old.width
  pub here : truth_in new row at ≡ truth
  pub others : (k i : ℕ) → i < old.width → (k ≢ row) ⊎ (i ≢ at) → truth_in new k i ≡ truth_in old k i
