-- Lists of optional names, and their representation in contracts.
use Rattle.std.specs.Prelude.{◌≡◌, ℕ, ◌-◌, ◌≤◌, List, [], ◌∷◌, ◌++◌, length, replicate, Option, None, Vec}
use Rattle.std.specs.List.{slice_range}
use Rattle.std.specs.Option.{option_map}
use Rattle.std.specs.Global.{Global}

-- the bytes of a name, if there is one
abbrev pub name_bytes : Option (Vec ℕ Global) → Option (List ℕ)
name_bytes name = option_map (λ bytes. bytes.items) name

-- a list of `count` names: the given names for the first vertices, and no name for the others
abbrev pub with_none : ℕ → List (Option (List ℕ)) → List (Option (List ℕ))
with_none count names = names ++ replicate (count - length names) None

-- the parts of a list that end at the given indices; the first part begins at the index `start`, and each other part
-- where the part before it ends
abbrev pub parts_from : ℕ → List ℕ → List ℕ → List (List ℕ)
parts_from start [] bytes = []
parts_from start (end ∷ ends) bytes = slice_range bytes start end ∷ parts_from end ends bytes

-- the parts of a list between successive offsets
abbrev pub parts_of : List ℕ → List ℕ → List (List ℕ)
parts_of [] bytes = []
parts_of (start ∷ ends) bytes = parts_from start ends bytes

-- the indices ascend from `start` on, and the last of them is `count`
abbrev pub AreEnds : ℕ → List ℕ → ℕ → Type 0
AreEnds start [] count = start ≡ count
AreEnds start (end ∷ ends) count = (start ≤ end) × AreEnds end ends count

-- the offsets ascend, there is at least one, and the last of them is the length of the list
abbrev pub AreBounds : List ℕ → List ℕ → Type 0
AreBounds [] bytes = ⊥
AreBounds (start ∷ ends) bytes = AreEnds start ends (length bytes)
