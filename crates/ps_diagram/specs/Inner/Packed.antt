-- Cells in 12 bytes each, and the hash by which a store looks up a cell. (For private functions.)
use Rattle.std.specs.Prelude.{◌≡◌, ◌==◌, if◌then◌else◌, ℕ, ◌+◌, ◌*◌, ◌/◌, ◌%◌, ◌^◌, ◌<◌, List, length, slice_index_or}
use Rattle.ps_keys.specs.Hashes.{mixed}
use Rattle.ps_diagram.specs.declared.packed.Packed.{Packed}
use Rattle.ps_diagram.specs.declared.view.View.{View}
use Rattle.ps_diagram.specs.declared.view.View.TheVariants.{Nothing, Leaf, Test}

-- a cell in 12 bytes; 64 in place of a proposition stands for a leaf, and 65 for no leaf
abbrev pub packed : View → Packed
packed Nothing = record { proposition = 65; low = 0; high = 0 }
packed (Leaf k) = record { proposition = 64; low = k % 2 ^ 32; high = k / 2 ^ 32 }
packed (Test p low high) = record { proposition = p; low = low; high = high }

-- the cell that 12 bytes stand for
abbrev pub view_of : Packed → View
view_of c = if c.proposition == 65 then Nothing else
    if c.proposition == 64 then Leaf (c.high * 2 ^ 32 + c.low) else Test c.proposition c.low c.high

-- a cell that can be packed: the proposition of a test is less than 64
abbrev pub CanPack : View → Type 0
CanPack Nothing = Unit {0}
CanPack (Leaf k) = Unit {0}
CanPack (Test p low high) = p < 64

-- each packed cell of the list is the packed form of the cell that it stands for
abbrev pub ArePacked : List Packed → Type 0
ArePacked list = (k : ℕ) (d : Packed) → k < length list →
    packed (view_of (slice_index_or list k d)) ≡ slice_index_or list k d

-- the hash of a packed cell
abbrev pub hash_of : ℕ → Packed → ℕ
hash_of seed c = mixed seed ((c.low * 128 + c.proposition) % 2 ^ 64) c.high
