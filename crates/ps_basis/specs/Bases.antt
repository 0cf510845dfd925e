-- What the second player can reach behind a letter of the first player, and bases: lists of letters that leave the
-- second player no more than any other letter does.
-- - `CanGoTo board q x r s`: from the state q, behind the letter x, the second player can go to the state r by an edge
--   of priority s
-- - `ReachesNoMore board q x other`: behind x, the second player reaches nothing that is not reached behind `other`
-- - `IsBasis board q letters`: `letters` is a basis of the state q
-- - `IsSetLetter board q x`: x is the least of the letters behind which the second player reaches the same
-- - `IsMinimalLetter board q x`: and behind no letter does the second player reach less
use Rattle.std.specs.Prelude.{◌≡◌, ℕ, ◌+◌, List}
use Rattle.std.specs.List.{All, AllPairs, Contains}
use Rattle.ps_diagram.specs.Letters.{IsBefore, IsLeastLetter}
use Rattle.ps_machine.specs.Boards.{Board, IsFirstLetter, IsSecondLetter, IsClassLetter}

pub record CanGoTo (board : Board) (q x r s : ℕ) : Type 0 where
  pub letter : ℕ
  pub is_letter : IsSecondLetter board letter
  pub state : board.auto.next q (x + letter) ≡ r
  pub priority : board.auto.priority q (x + letter) ≡ s

abbrev pub ReachesNoMore : Board → ℕ → ℕ → ℕ → Type 0
ReachesNoMore board q x other = (r s : ℕ) → CanGoTo board q x r s → CanGoTo board q other r s

-- behind the letter x, the second player reaches no more than behind `other`; x is in the list
pub record IsBelowLetter (board : Board) (q : ℕ) (letters : List ℕ) (x other : ℕ) : Type 0 where
  pub listed : Contains letters x
  pub no_more : ReachesNoMore board q x other

-- some least letters of classes, in their order: behind each letter of the first player, the second player reaches all
-- that is reached behind one of them
pub record IsBasis (board : Board) (q : ℕ) (letters : List ℕ) : Type 0 where
  pub each : All (IsClassLetter board q) letters
  pub rising : AllPairs IsBefore letters
  pub below_each : (other : ℕ) → IsFirstLetter board other → (x : ℕ) × IsBelowLetter board q letters x other

-- a letter of the first player behind which the second player reaches the same as behind x
pub record IsAlike (board : Board) (q x other : ℕ) : Type 0 where
  pub first : IsFirstLetter board other
  pub no_less : ReachesNoMore board q x other
  pub no_more : ReachesNoMore board q other x

abbrev pub IsSetLetter : Board → ℕ → ℕ → Type 0
IsSetLetter board q x = IsLeastLetter (IsAlike board q x) x

pub record IsMinimalLetter (board : Board) (q x : ℕ) : Type 0 where
  pub least : IsSetLetter board q x
  pub minimal : (other : ℕ) → IsFirstLetter board other → ReachesNoMore board q other x → ReachesNoMore board q x other
