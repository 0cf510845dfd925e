-- The index that a state's row has in the list of rows.
-- - `row_place n rows`: the index of the first row of state n, if the state has a row
use Rattle.std.specs.Prelude.{ℕ, suc, List, [], ◌∷◌, if◌then◌else◌, nat_eq, Option, None, Some}
use Rattle.ps_hoa.specs.Files.{RowData}

abbrev pub one_further : Option ℕ → Option ℕ
one_further None = None
one_further (Some k) = Some (suc k)

abbrev pub row_place : ℕ → List RowData → Option ℕ
row_place n [] = None
row_place n (row ∷ rows) = if nat_eq n row.state then Some 0 else one_further (row_place n rows)
