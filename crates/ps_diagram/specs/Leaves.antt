-- Functions that give the leaf of an operation's result at a letter, and the condition under which two leaves can be
-- overlaid.
use Rattle.std.specs.Prelude.{◌≡◌, ℕ, Option, Some, None}

-- the first leaf if there is one, and otherwise the second
abbrev pub either_leaf : Option ℕ → Option ℕ → Option ℕ
either_leaf None second = second
either_leaf (Some k) second = Some k

-- two leaves can be overlaid: at least one is missing, or they are equal
abbrev pub AreCompatible : Option ℕ → Option ℕ → Type 0
AreCompatible None second = Unit {0}
AreCompatible (Some k) None = Unit {0}
AreCompatible (Some k) (Some m) = k ≡ m

-- the leaf 1 if the argument is None, and otherwise None
abbrev pub opposite : Option ℕ → Option ℕ
opposite None = Some 1
opposite (Some k) = None

-- if-then-else of leaves: the second argument if the first is a leaf, and otherwise the third
abbrev pub chosen : Option ℕ → Option ℕ → Option ℕ → Option ℕ
chosen None one other = other
chosen (Some k) one other = one
