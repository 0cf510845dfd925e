-- The search for an item name in the table of item names.
-- - `rows_of`: the rows of the table
-- - `found`, `passed`, `ended`: the search when the next row of the table has the name, has another name, or does not
--   exist
use Rattle.std.proofs.Common.{◌≡◌, ℕ, ◌+◌, ◌<◌, ◌≤◌, true, false, List, map, drop, length, get_or, Bor}
use Rattle.std.proofs.Common.{Option, None, Some, ◌∷◌, suc, drop-cons, add-one, refl, ap, ◌∙◌}
use Rattle.std.proofs.lemmas.List.{drop_all}
use Rattle.std.specs.Str.{bytes_eq}
use Rattle.ps_hoa.specs.Grammar.ItemNames.{item_among}
use Rattle.ps_hoa.specs.declared.header.items.Item.{Item}

abbrev pub rows_of : List (Bor (List ℕ) × Item) → List (List ℕ × Item)
rows_of rows = map (λ row. (row.0.now, row.1)) rows

-- if the first row of the table has the name, the search finds the item of this row
here : (row : Bor (List ℕ) × Item) (rest : List (Bor (List ℕ) × Item)) (name : List ℕ) →
    bytes_eq name row.0.now ≡ true → item_among (rows_of (row ∷ rest)) name ≡ Some row.1
here row rest name e = rw e refl

behind : (row : Bor (List ℕ) × Item) (rest : List (Bor (List ℕ) × Item)) (name : List ℕ) →
    bytes_eq name row.0.now ≡ false → item_among (rows_of (row ∷ rest)) name ≡ item_among (rows_of rest) name
behind row rest name e = rw e refl

module _ (rows : List (Bor (List ℕ) × Item)) (i : ℕ) (name : List ℕ) where
  abbrev among : List (Bor (List ℕ) × Item) → Option Item
  among rest = item_among (rows_of rest) name

  pub found : (row : Bor (List ℕ) × Item) → i < length rows → bytes_eq name (get_or rows i row).0.now ≡ true →
      among (drop i rows) ≡ Some (get_or rows i row).1
  found row l e = ap among (drop-cons rows i row l) ∙ here (get_or rows i row) (drop (suc i) rows) name e

  pub passed : (row : Bor (List ℕ) × Item) → i < length rows → bytes_eq name (get_or rows i row).0.now ≡ false →
      among (drop i rows) ≡ among (drop (i + 1) rows)
  passed row l e = rw add-one (ap among (drop-cons rows i row l)
      ∙ behind (get_or rows i row) (drop (suc i) rows) name e)

  pub ended : length rows ≤ i → among (drop i rows) ≡ None
  ended l = ap among (drop_all i rows l)
