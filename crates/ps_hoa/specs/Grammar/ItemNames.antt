-- The names of the items of a header.
-- - `item_names`: the names of the items that the parser knows
-- - `item_named name`: the header item with the given name
-- - `once_of item`: the index of an item among the items that may occur only once
-- - `none_occurred`: none of the items that may occur only once has occurred
use Rattle.std.specs.Prelude.{ℕ, Bool, false, List, [], ◌∷◌, codes, if◌then◌else◌, Option, None, Some}
use Rattle.std.specs.Str.{bytes_eq}
use Rattle.ps_hoa.specs.declared.header.items.Item.{Item}
use Rattle.ps_hoa.specs.declared.header.items.Item.TheVariants as items

abbrev pub item_names : List (List ℕ × Item)
item_names =
    (codes "States:", items.States) ∷
    (codes "Start:", items.Start) ∷
    (codes "AP:", items.Propositions) ∷
    (codes "Alias:", items.Alias) ∷
    (codes "Acceptance:", items.Acceptance) ∷
    (codes "controllable-AP:", items.Controllable) ∷
    (codes "tool:", items.Tool) ∷
    (codes "name:", items.Name) ∷
    []

abbrev pub item_among : List (List ℕ × Item) → List ℕ → Option Item
item_among [] name = None
item_among (row ∷ rows) name = if bytes_eq name row.0 then Some row.1 else item_among rows name

unfoldable pub item_named : List ℕ → Option Item
item_named name = item_among item_names name

-- ## Items that may occur only once

abbrev pub once_of : Item → Option ℕ
once_of items.States = Some 0
once_of items.Propositions = Some 1
once_of items.Acceptance = Some 2
once_of items.Controllable = Some 3
once_of item = None

abbrev pub none_occurred : List Bool
none_occurred = false ∷ false ∷ false ∷ false ∷ []

abbrev pub once_among : Option Item → Option ℕ
once_among None = None
once_among (Some item) = once_of item

abbrev pub once_named : List ℕ → Option ℕ
once_named name = once_among (item_named name)
