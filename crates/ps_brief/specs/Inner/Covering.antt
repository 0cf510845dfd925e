-- A basis in the making. (For private functions.)
-- - `IsLow board t q second low`: the diagram `low` has the leaf 1 at some letters of the first player; where it has
--   it, it also has it at each letter behind which the second player reaches no more
-- - `AreBelow setting t q list n letter low`, `AreAlike setting t q list n low`: behind the letters at which `low` has
-- a
--   leaf, no more is reached than behind the given letter, or everywhere the same, as far as the first n targets of the
--   list tell
-- - `IsWithout setting s t q target low made`: `made` has leaves at letters of `low` behind which the target cannot be
--   reached
-- - `IsCovered setting t q list n letter covered`: `covered` has leaves at the letters that the given letter covers, as
--   far as the first n targets of the list tell
-- - `AreMarked board t q basis`: the diagram `basis` has some letters of a basis as leaves, each at itself
-- - `IsCovering board t q uncovered basis`: a marked letter covers each letter at which `uncovered` has no leaf
-- - `HasFound setting t q uncovered n`: n minimal letters were found, and none of them covers a letter at which
--   `uncovered` has a leaf
use Rattle.std.specs.Prelude.{◌≡◌, ◌⊎◌, ℕ, ◌^◌, ◌<◌, List, Some, IsSome, slice_index_or}
use Rattle.std.specs.List.{Contains}
use Rattle.ps_diagram.specs.Letters.{AgreeOff}
use Rattle.ps_diagram.specs.Table.{Table, IsNode, leaf_of}
use Rattle.ps_machine.specs.Boards.{Board, IsClassLetter, IsFirstLetter}
use Rattle.ps_basis.specs.Bases.{CanGoTo, ReachesNoMore}
use Rattle.ps_brief.specs.MinimalLetters.{HasMinimalLetters}
use Rattle.ps_brief.specs.Settings.{board_in}
use Rattle.ps_brief.specs.declared.setting.Setting.{Setting}
use Rattle.ps_brief.specs.declared.steps.Target.{Target}

pub record IsLow (board : Board) (t : Table) (q second low : ℕ) : Type 0 where
  pub held : IsNode t low
  pub others : (u v : ℕ) → AgreeOff second u v → leaf_of t low u ≡ leaf_of t low v
  pub ones : (x leaf : ℕ) → leaf_of t low x ≡ Some leaf → leaf ≡ 1
  pub down : (x y : ℕ) → IsFirstLetter board x → IsFirstLetter board y → ReachesNoMore board q y x →
      IsSome (leaf_of t low x) → IsSome (leaf_of t low y)

-- the first n targets that can be reached behind the letter can also be reached behind z
abbrev pub ReachesToo : Setting → (q : ℕ) → List Target → (n letter z : ℕ) → Type 0
ReachesToo setting q list n letter z = (k : ℕ) (d : Target) → k < n →
    CanGoTo (board_in setting) q letter (slice_index_or list k d).state (slice_index_or list k d).priority →
    CanGoTo (board_in setting) q z (slice_index_or list k d).state (slice_index_or list k d).priority

abbrev pub AreBelow : Setting → Table → (q : ℕ) → List Target → (n letter low : ℕ) → Type 0
AreBelow setting t q list n letter low = (x : ℕ) → IsFirstLetter (board_in setting) x → IsSome (leaf_of t low x) →
    ReachesToo setting q list n x letter

abbrev pub AreAlike : Setting → Table → (q : ℕ) → List Target → (n low : ℕ) → Type 0
AreAlike setting t q list n low = (x y : ℕ) → IsFirstLetter (board_in setting) x → IsFirstLetter (board_in setting) y →
    IsSome (leaf_of t low x) → IsSome (leaf_of t low y) → ReachesToo setting q list n x y

-- `low` is a diagram of the store s, and `made` of the store t
pub record IsWithout (setting : Setting) (s t : Table) (q : ℕ) (target : Target) (low made : ℕ) : Type 0 where
  pub still : (x : ℕ) → IsSome (leaf_of t made x) → IsSome (leaf_of s low x)
  pub never : (x : ℕ) → IsFirstLetter (board_in setting) x → IsSome (leaf_of t made x) →
      ¬ CanGoTo (board_in setting) q x target.state target.priority

-- the diagram has a leaf at just those letters of the first player behind which the second player can also reach those
-- of the first n targets that can be reached behind the given letter
pub record IsCovered (setting : Setting) (t : Table) (q : ℕ) (list : List Target) (n letter covered : ℕ) : Type 0 where
  pub held : IsNode t covered
  pub others : (u v : ℕ) → AgreeOff setting.second u v → leaf_of t covered u ≡ leaf_of t covered v
  pub too : (z : ℕ) → IsFirstLetter (board_in setting) z → IsSome (leaf_of t covered z) →
      ReachesToo setting q list n letter z
  pub whole : (z : ℕ) → IsFirstLetter (board_in setting) z → ReachesToo setting q list n letter z →
      IsSome (leaf_of t covered z)

pub record IsMark (board : Board) (q x leaf : ℕ) : Type 0 where
  pub itself : leaf ≡ x
  pub is_class : IsClassLetter board q x

abbrev pub AreMarked : Board → Table → ℕ → ℕ → Type 0
AreMarked board t q basis =
    (x leaf : ℕ) → x < 2 ^ board.propositions → leaf_of t basis x ≡ Some leaf → IsMark board q x leaf

-- the letter x is a leaf of the diagram, at itself
abbrev pub IsMarked : Table → ℕ → ℕ → Type 0
IsMarked t basis x = (x < 2 ^ t.propositions) × (leaf_of t basis x ≡ Some x)

-- the marked letter x covers the letter z
pub record Covers (board : Board) (t : Table) (q basis z x : ℕ) : Type 0 where
  pub within : x < 2 ^ board.propositions
  pub marked : leaf_of t basis x ≡ Some x
  pub no_more : ReachesNoMore board q x z

pub record IsCovering (board : Board) (t : Table) (q uncovered basis : ℕ) : Type 0 where
  pub uncovered_held : IsNode t uncovered
  pub basis_held : IsNode t basis
  pub marked : AreMarked board t q basis
  pub each : (z : ℕ) → IsFirstLetter board z →
      (leaf_of t uncovered z ≡ Some 1) ⊎ ((x : ℕ) × Covers board t q basis z x)

-- at the letters where `left` still has a leaf, `uncovered` has one too, and the letter x does not cover them. If
-- `uncovered` does not depend on the second player's propositions, neither does `left`
pub record IsApart (setting : Setting) (s t : Table) (q x uncovered left : ℕ) : Type 0 where
  pub others : ((u v : ℕ) → AgreeOff setting.second u v → leaf_of s uncovered u ≡ leaf_of s uncovered v) → (u v : ℕ) →
      AgreeOff setting.second u v → leaf_of t left u ≡ leaf_of t left v
  pub still : (z : ℕ) → IsSome (leaf_of t left z) → IsSome (leaf_of s uncovered z)
  pub apart : (z : ℕ) → IsFirstLetter (board_in setting) z → IsSome (leaf_of t left z) →
      ¬ ReachesNoMore (board_in setting) q x z

-- `uncovered` does not depend on the second player's propositions
pub record HasFound (setting : Setting) (t : Table) (q uncovered n : ℕ) : Type 0 where
  pub others : (u v : ℕ) → AgreeOff setting.second u v → leaf_of t uncovered u ≡ leaf_of t uncovered v
  pub found : HasMinimalLetters (board_in setting) q n
  pub apart : (x z : ℕ) → Contains found.letters x → IsFirstLetter (board_in setting) z →
      IsSome (leaf_of t uncovered z) → ¬ ReachesNoMore (board_in setting) q x z
