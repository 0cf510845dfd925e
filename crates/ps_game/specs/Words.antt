-- Sets of vertices that are stored in words of 64 bits: vertex 64·w + b is bit b of word w.
use Rattle.std.specs.Prelude.{◌≡◌, ℕ, ◌+◌, ◌*◌, ◌/◌, ◌%◌, ◌^◌, ◌≤◌, ◌<◌, ◌==◌, Bool, false, List, length, map}
use Rattle.std.specs.Prelude.{slice_index}
use Rattle.std.specs.Int.{bit_at}
use Rattle.std.specs.List.{range_with_len}

-- whether the bit of the vertex v is set in the words
abbrev pub bit_in : List ℕ → ℕ → Bool
bit_in words v = bit_at (slice_index words (v / 64)) (v % 64) == 1

-- the set that the words represent, as a list with a truth value for each vertex less than `places`
unfoldable pub members : ℕ → List ℕ → List Bool
members places words = map (λ v. bit_in words v) (range_with_len 0 places)

-- there are just enough words for the vertices less than `places`, and no bit that stands for a number from `places` on
-- is set
pub record ArePacked (places : ℕ) (words : List ℕ) : Type 0 where
  pub few : places < 2 ^ 64
  pub enough : places ≤ 64 * length words
  pub no_more : 64 * length words < places + 64
  pub none_past : (v : ℕ) → places ≤ v → bit_in words v ≡ false
