-- The table with the index of each state's row.
-- - `has_place_row`: a state has an index in the list of rows exactly if it has a row
-- - `row_at`: the row of a state is the row at the state's index in the list of rows
-- - `place_push`: appending the row of a state gives this state the next index, and changes the index of no other state
-- - `place_set`: the table of indices after such a row is appended
use Rattle.std.proofs.Common.{◌≡◌, ℕ, ◌<◌, false, cond, List, [], ◌∷◌, ◌++◌, length, Option, None, Some, refl, rules}
use Rattle.std.proofs.Common.{arith, get_or, set, get_or-set_same, get_or-set_other}
use Rattle.std.specs.List.{slice_get}
use Rattle.std.specs.Option.{is_some}
use Rattle.std.specs.Prelude.{nat_eq}
use Rattle.std.proofs.lemmas.Bool.{eqb-true, eq-eqb, cases_eq}
use Rattle.ps_hoa.specs.Grammar.Body.{has_row}
use Rattle.ps_hoa.specs.Edges.{row_among}
use Rattle.ps_hoa.specs.Files.{RowData}
use Rattle.ps_hoa.specs.Inner.RowPlaces.{one_further, row_place}
use Rattle.ps_hoa.proofs.Grammar.OperandLaws.{false_true}

further_some : (o : Option ℕ) → is_some (one_further o) ≡ is_some o
further_some o = search rules

pub has_place_row : (n : ℕ) (rows : List RowData) → is_some (row_place n rows) ≡ has_row n rows
has_place_row n [] = refl
has_place_row n (row ∷ rows) = search (rules, further_some, has_place_row n rows)

abbrev pub at_place : List RowData → Option ℕ → Option RowData
at_place rows None = None
at_place rows (Some k) = slice_get rows k

further_at : (row : RowData) (rows : List RowData) (o : Option ℕ) →
    at_place rows o ≡ at_place (row ∷ rows) (one_further o)
further_at row rows o = search rules

pub row_at : (n : ℕ) (rows : List RowData) → row_among rows n ≡ at_place rows (row_place n rows)
row_at n [] = refl
row_at n (row ∷ rows) = search (rules, further_at, row_at n rows)

pub place_push : (n : ℕ) (rows : List RowData) (row : RowData) → has_row row.state rows ≡ false →
    cond (nat_eq n row.state) (Some (length rows)) (row_place n rows) ≡ row_place n (rows ++ row ∷ [])
place_push n [] row free = refl
place_push n (r ∷ rows) row free = search (rules, eqb-true, false_true, eq-eqb, place_push n rows row)

pub place_set : (places : List (Option ℕ)) (n : ℕ) (rows : List RowData) (row : RowData) →
    row.state < length places → get_or places n None ≡ row_place n rows → has_row row.state rows ≡ false →
    get_or (set places row.state (Some (length rows))) n None ≡ row_place n (rows ++ row ∷ [])
place_set places n rows row within before free =
    grind (arith, get_or-set_same, get_or-set_other, cases_eq n row.state, place_push n rows row free)
