-- Truths with stamps. An entry of the table is valid if its stamp is the table's current stamp.
use Rattle.std.specs.Prelude.{ℕ, ◌==◌, Option, None, Some, if◌then◌else◌}
use Rattle.ps_product.specs.declared.known.Entry.{Entry}
use Rattle.ps_product.specs.declared.truth.Truth.{Truth}

abbrev pub truth_in : ℕ → Entry → Option Truth
truth_in stamp e = if e.stamp == stamp then Some e.truth else None
