-- The order in which an automaton's game has the vertices of the first player, described without classes of letters.
-- - `HasStepTo board q r s`: some step leads from the state q to the state r by an edge of priority s
-- - `IsMadeAt board keys r s i x y`: i is the first index of the list whose state has a step to r by an edge of
--   priority s; from this state, x and then y are the least letters of the two players that lead there
-- - `IsInOrder board keys`: in the list, the keys of the first player stand by these indices and letters
-- - `AreNumberedAlike one other`: two lists have the same keys of the first player, in the same order
--
-- So the start stands first. Then come, for each state when it first occurs, the keys to which it has a step, by their
-- least letters; a key that occurred before is left out.
use Rattle.std.specs.Prelude.{◌≡◌, ◌≢◌, ℕ, ◌<◌, ◌⊎◌, ◌↔◌, List}
use Rattle.std.specs.List.{AllPairs, Contains}
use Rattle.ps_diagram.specs.Letters.{IsBefore, IsLeastLetter}
use Rattle.ps_machine.specs.Boards.{Board, IsFirstLetter}
use Rattle.ps_machine.specs.Numbering.{StandsAt}
use Rattle.ps_machine.specs.declared.key.Key.{Key}
use Rattle.ps_machine.specs.declared.key.Key.TheVariants.{First}
use Rattle.ps_basis.specs.ArenaMoves.{GoesThere}
use Rattle.ps_basis.specs.Bases.{CanGoTo}

pub record HasStepTo (board : Board) (q r s : ℕ) : Type 0 where
  pub letter : ℕ
  pub is_letter : IsFirstLetter board letter
  pub reached : CanGoTo board q letter r s

-- from the state q, x is the first player's least letter behind which the second player can go to the state r by an
-- edge of priority s, and y is the second player's least letter that leads there behind x
pub record IsLeastStep (board : Board) (q r s x y : ℕ) : Type 0 where
  pub first : IsLeastLetter (λ z. IsFirstLetter board z × CanGoTo board q z r s) x
  pub second : IsLeastLetter (GoesThere board q x r s) y

pub record IsMadeAt (board : Board) (keys : List Key) (r s i x y : ℕ) : Type 0 where
  pub state : ℕ
  pub priority : ℕ
  pub stands : StandsAt keys i (First state priority)
  pub least : IsLeastStep board state r s x y
  pub none_before : (k q p : ℕ) → k < i → StandsAt keys k (First q p) → ¬ HasStepTo board q r s

-- the first of the three numbers at which the two triples differ is less in the first triple, or, if it is a letter,
-- comes before the other letter
abbrev pub IsEarlier : (i x y l z w : ℕ) → Type 0
IsEarlier i x y l z w = (i < l) ⊎ ((i ≡ l) × (IsBefore x z ⊎ ((x ≡ z) × IsBefore y w)))

-- the key (First r s) is made at an index of the list that is less than n
pub record IsMadeBelow (board : Board) (keys : List Key) (r s n : ℕ) : Type 0 where
  pub index : ℕ
  pub x : ℕ
  pub y : ℕ
  pub below : index < n
  pub made : IsMadeAt board keys r s index x y

pub record IsInOrder (board : Board) (keys : List Key) : Type 0 where
  pub begins : StandsAt keys 0 (First board.auto.start 0)
  pub different : AllPairs (λ x y. x ≢ y) keys
  pub closed : (i q p r s : ℕ) → StandsAt keys i (First q p) → HasStepTo board q r s → Contains keys (First r s)
  pub made : (j r s : ℕ) → 0 < j → StandsAt keys j (First r s) → IsMadeBelow board keys r s j
  pub rising : (j k r s t o : ℕ) → 0 < j → j < k → StandsAt keys j (First r s) → StandsAt keys k (First t o) →
      (i x y l z w : ℕ) → IsMadeAt board keys r s i x y → IsMadeAt board keys t o l z w → IsEarlier i x y l z w

pub record AreNumberedAlike (one other : List Key) : Type 0 where
  pub keys : (q p : ℕ) → Contains one (First q p) ↔ Contains other (First q p)
  pub numbers : (i j k l q p r s : ℕ) → StandsAt one i (First q p) → StandsAt one j (First r s) →
      StandsAt other k (First q p) → StandsAt other l (First r s) → (i < j) ↔ (k < l)
