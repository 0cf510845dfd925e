-- A vertex's row of counts in a table, given by its nonzero counts.
use Rattle.std.proofs.Common.{◌≡◌, ◌∙◌, ℕ, ◌<◌, List, [], length, get_or, refl, sym, ap}
use Rattle.std.specs.Prelude.{Option, None, Some}
use Rattle.std.proofs.lemmas.Option.{slice_get-get_or}
use Rattle.ps_game.specs.declared.nonzero.NonzeroCount.{NonzeroCount}
use Rattle.ps_game.specs.Nonzero.{nonzero_from}
use Rattle.ps_certificate.specs.Sparse.{dense_row, IsRow}
use Rattle.ps_certificate.proofs.SparseRows.Sparse.{nonzero_is_row, row_nonzero}
use Rattle.ps_measure.specs.Ranks.{width_in, width_of}
use Rattle.ps_referee.specs.Inner.Building.{row_in, row_at}

pub row_long : (row : Option (List ℕ)) → length (row_in row) ≡ width_in row
row_long None = refl
row_long (Some row) = refl

module _ (rows : List (List ℕ)) (v width : ℕ) (nonzero : List NonzeroCount) (within : v < length rows)
    (wide : (u : ℕ) → u < length rows → width_of rows u ≡ width)
    (are : nonzero ≡ nonzero_from 0 (get_or rows v [])) where
  row_is : get_or rows v [] ≡ row_at rows v
  row_is = sym (ap row_in (slice_get-get_or rows v [] within))

  long : length (get_or rows v []) ≡ width
  long = ap length row_is ∙ row_long _ ∙ wide v within

  pub nonzero_row : IsRow width nonzero
  nonzero_row = rw (are, ← long) (nonzero_is_row (get_or rows v []))

  pub row_of_nonzero : dense_row width nonzero ≡ row_at rows v
  row_of_nonzero = rw (are, ← long) (row_nonzero ∙ row_is)
