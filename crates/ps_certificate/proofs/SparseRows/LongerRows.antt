-- Lemmas about a list of counts that grows, and of which only the nonzero counts are stored.
use Rattle.std.proofs.Common.{◌≡◌, ℕ, zero, suc, ◌+◌, ◌-◌, ◌<◌, ◌≤◌, ◌∙◌, List, [], ◌∷◌, ◌++◌, length, eqb, cond, refl}
use Rattle.std.proofs.Common.{ap, replicate, arith}
use Rattle.ps_certificate.specs.Sparse.{count_at, dense_row, Rises, IsRow, place_at}
use Rattle.ps_game.specs.declared.nonzero.NonzeroCount.{NonzeroCount}
use Rattle.ps_certificate.proofs.SparseRows.Sparse.{count_missing, other_place, place_within, row_next, row_to}
use Rattle.ps_certificate.proofs.SparseRows.Sparse.{same_place}

pub rises_wider : (from to wider : ℕ) (ps : List NonzeroCount) → to ≤ wider → Rises from to ps → Rises from wider ps
rises_wider from to wider [] h r = tt
rises_wider from to wider (p ∷ ps) h r = (r.0, omega (arith, r.1, h), rises_wider (suc p.place) to wider ps h r.2)

-- the stored counts, and then one for an index behind theirs
abbrev pub and_one : List NonzeroCount → ℕ → ℕ → List NonzeroCount
and_one ps place count = ps ++ record { place = place; count = count } ∷ []

pub rises_one : (from width count : ℕ) (ps : List NonzeroCount) → from ≤ width → Rises from width ps →
    Rises from (width + 1) (and_one ps width count)
rises_one from width count [] h r = (h, omega arith, tt)
rises_one from width count (p ∷ ps) h r =
    (r.0, omega (arith, r.1), rises_one (suc p.place) width count ps (omega (arith, r.1)) r.2)

count_before : (ps : List NonzeroCount) (width count k : ℕ) → k < width →
    count_at (and_one ps width count) k ≡ count_at ps k
count_before [] width count k h =
    other_place (record { place = width; count = count }) [] k (λ same. omega (arith, h, same))
count_before (p ∷ ps) width count k h = ap (λ c. cond (eqb p.place k) p.count c) (count_before ps width count k h)

count_last : (from width count : ℕ) (ps : List NonzeroCount) → Rises from width ps →
    count_at (and_one ps width count) width ≡ count
count_last from width count [] r = same_place (record { place = width; count = count }) [] refl
count_last from width count (p ∷ ps) r =
    other_place p (and_one ps width count) width (λ same. omega (arith, r.1, same))
    ∙ count_last (suc p.place) width count ps r.2

rows_like : (ps qs : List NonzeroCount) (n : ℕ) → ((k : ℕ) → k < n → count_at ps k ≡ count_at qs k) →
    dense_row n ps ≡ dense_row n qs
rows_like ps qs zero h = refl
rows_like ps qs (suc n) h = grind (
  arith,
  row_next ps n,
  row_next qs n,
  rows_like ps qs n (λ k less. h k (omega (arith, less))),
  h n (omega arith),
)

module _ (ps : List NonzeroCount) (width : ℕ) (row : IsRow width ps) where
  -- appending a count to the stored counts appends it to all counts
  pub row_one : (count : ℕ) → dense_row (width + 1) (and_one ps width count) ≡ dense_row width ps ++ count ∷ []
  row_one count = row_next (and_one ps width count) width
      ∙ ap (λ c. dense_row width (and_one ps width count) ++ c ∷ []) (count_last 0 width count ps row)
      ∙ ap (λ cs. cs ++ count ∷ []) (rows_like (and_one ps width count) ps width (count_before ps width count))

  absent : (i : ℕ) → i < length ps → place_at ps i < width
  absent i within = (place_within 0 width ps i row within).1

  pub row_zero : dense_row (width + 1) ps ≡ dense_row width ps ++ 0 ∷ []
  row_zero = row_next ps width ∙ ap (λ c. dense_row width ps ++ c ∷ [])
      (count_missing ps width (λ i within same. omega (arith, absent i within, same)))

  pub row_wider : (wider : ℕ) → width ≤ wider → dense_row wider ps ≡ dense_row width ps ++ replicate (wider - width) 0
  row_wider wider h = row_to ps width wider h (λ i within late. absurd (omega (arith, absent i within, late)))
