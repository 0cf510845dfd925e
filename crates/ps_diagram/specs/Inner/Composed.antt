-- The relation between the tree that `composed_from` makes and the tree from which it is made. (For private functions.)
use Rattle.std.specs.Prelude.{◌≡◌, ℕ, ◌<◌, Bool, List, if◌then◌else◌, is_some, length, slice_index}
use Rattle.ps_diagram.specs.Letters.{assignment}
use Rattle.ps_diagram.specs.Table.{Table, leaf_of}
use Rattle.ps_diagram.specs.Tree.{Tree, leaf_at}

-- f has the values of the functions `truths` at the letter: f p is true exactly if the p-th node of `truths` has a leaf
-- at the letter
abbrev pub AreBitsAt : Table → List ℕ → ℕ → (ℕ → Bool) → Type 0
AreBitsAt t truths letter f =
    (p : ℕ) → p < length truths → f p ≡ is_some (leaf_of t (slice_index truths p) letter)

-- at each letter, the nodes `truths` give the bits of a letter f, and the second tree has the leaf that the first tree
-- has at f
abbrev pub IsComposed : Table → List ℕ → Tree → Tree → Type 0
IsComposed t truths a b =
    (letter : ℕ) (f : ℕ → Bool) → AreBitsAt t truths letter f → leaf_at b (assignment letter) ≡ leaf_at a f

-- `side` is the only side of a test that is needed, because the function in place of the proposition is constant
abbrev pub IsOnlySide : Table → ℕ → ℕ → ℕ → ℕ → Type 0
IsOnlySide t truth low high side =
    (letter : ℕ) → side ≡ (if is_some (leaf_of t truth letter) then high else low)
