-- The leaves that are reported if two diagrams cannot be overlaid.
use Rattle.std.specs.Prelude.{◌≡◌, ◌≢◌, ℕ, ◌^◌, ◌<◌, Some}
use Rattle.ps_diagram.specs.declared.fault.OverlayError.{OverlayError}
use Rattle.ps_diagram.specs.declared.fault.OverlayError.TheVariants.{Clash, OutOfMemory}
use Rattle.ps_diagram.specs.Table.{Table, leaf_of}

-- at some letter, the first node has the leaf x, the second node has the leaf y, and x and y differ
abbrev pub TellsClash : Table → ℕ → ℕ → OverlayError → Type 0
TellsClash t first second (Clash x y) =
    (letter : ℕ) × (letter < 2 ^ t.propositions) × (leaf_of t first letter ≡ Some x) ×
    (leaf_of t second letter ≡ Some y) × (x ≢ y)
TellsClash t first second OutOfMemory = Unit {0}
