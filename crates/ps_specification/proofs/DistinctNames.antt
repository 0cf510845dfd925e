-- Names that differ from each other are distinct by their numbers.
use Rattle.std.proofs.Common.{◌≡◌, ◌≢◌, ◌<◌, ◌⊎◌, ℕ, List, [], inl, inr, sym}
use Rattle.std.proofs.lemmas.Bool.{cases_order}
use Rattle.std.specs.Prelude.{AllPairs}
use Rattle.ps_simulate.specs.Symbols.{AreDistinct}

pub are_distinct : (names : List (List ℕ)) → AllPairs ◌≢◌ names → AreDistinct names
are_distinct names differ p q below_p below_q same = by (cases_order p q)
  where
    by : (p ≡ q) ⊎ ((p < q) ⊎ (q < p)) → p ≡ q
    by (inl equal) = equal
    by (inr (inl less)) = absurd (differ p q [] less below_q same)
    by (inr (inr more)) = absurd (differ q p [] more below_p (sym same))
