-- The propositions that the symbols of a circuit name are found, symbol by symbol.
use Rattle.std.specs.Prelude.{◌≡◌, ℕ, ◌<◌, Bool, List, Option, length, slice_index}
use Rattle.std.specs.List.{Contains}
use Rattle.ps_hoa.specs.Files.{is_among}
use Rattle.ps_simulate.specs.Symbols.{IsSymbol}

-- the list has the propositions that the first `count` symbols name; no proposition is named twice. If `wanted` is
-- true, each proposition of the list is controllable, and otherwise none is.
pub record IsListing (names : List (List ℕ)) (controllable : List ℕ) (wanted : Bool)
    (symbols : List (Option (List ℕ))) (count : ℕ) (list : List ℕ) : Type 0 where
  pub one_each : length list ≡ count
  pub each : (k : ℕ) → k < length list → IsSymbol names symbols k (slice_index list k)
  pub side : (k : ℕ) → k < length list → is_among (slice_index list k) controllable ≡ wanted
  pub differ : (j k : ℕ) → j < length list → k < length list → slice_index list j ≡ slice_index list k → j ≡ k

-- the list has every controllable proposition, or, if `wanted` is false, every proposition that is not controllable
abbrev pub IsFull : List (List ℕ) → List ℕ → Bool → List ℕ → Type 0
IsFull names controllable wanted list =
    (p : ℕ) → p < length names → is_among p controllable ≡ wanted → Contains list p
