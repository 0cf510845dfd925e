-- Rows that are added one by one. If the whole list has at most one row for each state, and few enough edges, so have
-- the rows up to each of its rows.
-- - `once_at`: no earlier row is of the same state
-- - `few_at`: the edges of the row and of the earlier rows are no more than those of all rows
use Rattle.std.proofs.Common.{◌≡◌, ℕ, zero, suc, ◌+◌, ◌<◌, ◌≤◌, false, List, [], ◌∷◌, length, take, get_or, nat_eq}
use Rattle.std.proofs.Common.{refl}
use Rattle.std.proofs.Common.{arith}
use Rattle.std.proofs.lemmas.List.Sums.{sum_by_more, sum_by-take-le}
use Rattle.ps_hoa.specs.Grammar.Body.{has_row}
use Rattle.ps_hoa.specs.Files.{RowData}
use Rattle.ps_hoa.specs.Sound.{AreRowsOnce, edges_of}
use Rattle.ps_hoa.proofs.Soundness.Differences.{neither, nat_eq_not}

other_at : (n : ℕ) (rows : List RowData) (k : ℕ) (d : RowData) → k < length rows → has_row n rows ≡ false →
    nat_eq n (get_or rows k d).state ≡ false
other_at n [] k d lt e = absurd (omega arith)
other_at n (r ∷ rows) zero d lt e = (neither (nat_eq n r.state) (has_row n rows) e).0
other_at n (r ∷ rows) (suc k) d lt e =
    other_at n rows k d (omega arith) (neither (nat_eq n r.state) (has_row n rows) e).1

pub once_at : (rows : List RowData) (k : ℕ) (d : RowData) → k < length rows → AreRowsOnce rows →
    has_row (get_or rows k d).state (take k rows) ≡ false
once_at [] k d lt a = absurd (omega arith)
once_at (r ∷ rows) zero d lt a = refl
once_at (r ∷ rows) (suc k) d lt a =
    let other = nat_eq_not r.state (get_or rows k d).state (other_at r.state rows k d (omega arith) a.0) in
    rw (other, once_at rows k d (omega arith) a.1) refl

pub few_at : (rows : List RowData) (k : ℕ) (d : RowData) → k < length rows →
    edges_of (take k rows) + length (get_or rows k d).edges ≤ edges_of rows
few_at rows k d lt =
    let more = sum_by_more (λ row. length row.edges) rows k d lt in
    omega (arith, more, sum_by-take-le (λ row. length row.edges) rows (k + 1))
