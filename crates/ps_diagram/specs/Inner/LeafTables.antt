-- Lists of different leaves, each with a letter. (For private functions.)
use Rattle.std.specs.Prelude.{◌≡◌, ◌≢◌, ℕ, ◌<◌, List, Option, AllPairs, drop, length, map, nat_eq}
use Rattle.std.specs.List.{position}
use Rattle.ps_diagram.specs.Inner.Numbered.{pair_at}

-- the index of a leaf in the list
abbrev pub place_in : List (ℕ × ℕ) → ℕ → Option ℕ
place_in pairs leaf = position (λ pair. nat_eq leaf pair.0) pairs

-- the leaf is at the index in the list
abbrev pub IsPlace : List (ℕ × ℕ) → ℕ → ℕ → Type 0
IsPlace pairs leaf place = (place < length pairs) × ((pair_at pairs place).0 ≡ leaf)

-- the leaf is at no index less than n
abbrev pub LacksBefore : ℕ → List (ℕ × ℕ) → ℕ → Type 0
LacksBefore n pairs leaf = (k : ℕ) → k < n → k < length pairs → (pair_at pairs k).0 ≢ leaf

-- no leaf occurs twice in the list, and `others` has its leaves from the ninth on
pub record AreDifferent (pairs : List (ℕ × ℕ)) (others : List ℕ) : Type 0 where
  pub apart : AllPairs (λ a b. a.0 ≢ b.0) pairs
  pub rest : others ≡ drop 8 (map (λ pair. pair.0) pairs)
