-- Classes of letters that are made from a diagram's leaves and their least letters, and the indices of these classes.
use Rattle.std.specs.Prelude.{◌≡◌, ℕ, ◌<◌, List, length, Option, Some, option_and_then, slice_index_or}
use Rattle.ps_diagram.specs.Inner.Known.{IsMapped}
use Rattle.ps_diagram.specs.Tree.{Tree}
use Rattle.ps_diagram.specs.declared.classes.Class.{Class}

abbrev pub class_at : List Class → ℕ → Class
class_at list i = slice_index_or list i (record { letter = 0; rest = 0 })

abbrev pub pair_at : List (ℕ × ℕ) → ℕ → ℕ × ℕ
pair_at leaves i = slice_index_or leaves i (0, 0)

-- the list has a class for each of the first n leaves: the class's diagram is the leaf, as a number of a node, and the
-- class's letter is the leaf's least letter
pub record AreOf (leaves : List (ℕ × ℕ)) (n : ℕ) (list : List Class) : Type 0 where
  pub each : length list ≡ n
  pub rest : (i : ℕ) → i < n → (class_at list i).rest ≡ (pair_at leaves i).0
  pub letter : (i : ℕ) → i < n → (class_at list i).letter ≡ (pair_at leaves i).1

-- `places` maps the diagram of each class to the index of the class
pub record IsPlaced (places : ℕ → Option ℕ) (list : List Class) : Type 0 where
  pub found : (k i : ℕ) → places k ≡ Some i → (i < length list) × ((class_at list i).rest ≡ k)
  pub placed : (i : ℕ) → i < length list → places (class_at list i).rest ≡ Some i

-- The list has the classes of all leaves. At each letter, the leaf of the tree `placed` is the index of the class whose
-- diagram is the leaf of `tree`.
pub record AreOfLeaves (leaves : List (ℕ × ℕ)) (tree placed : Tree) (list : List Class) : Type 0 where
  pub listed : AreOf leaves (length leaves) list
  pub places : ℕ → Option ℕ
  pub found : IsPlaced places list
  pub mapped : IsMapped (λ leaf. option_and_then places leaf) tree placed
