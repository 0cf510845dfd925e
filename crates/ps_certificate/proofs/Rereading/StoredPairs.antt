-- Lemmas about the loop that writes the nonzero counts of a vertex from the stored counts.
-- - `stored_pairs ps placed`: the text of the nonzero counts among the stored counts, each after a space, its priority
--   and a colon
-- - `pairs_stored`: this is the text of the nonzero counts in the vertex's full list of counts
-- - `row_words`: if each stored count fits in 64 bits, so does each count of the full list
use Rattle.std.proofs.Common.{◌≡◌, ℕ, zero, suc, ◌+◌, ◌<◌, ◌≤◌, List, [], ◌∷◌, ◌++◌, length, drop, refl}
use Rattle.std.proofs.Common.{ap, sym, subst, inl, inr, arith, if◌then◌else◌, ◌==◌}
use Rattle.std.specs.Prelude.{decimal, slice_index}
use Rattle.std.specs.List.{All}
use Rattle.std.proofs.lemmas.Bool.{cases_eq}
use Rattle.std.proofs.lemmas.List.{drop_more, get_or_default}
use Rattle.ps_certificate.specs.Sparse.{count_at, counts_from, dense_row, Rises, IsRow}
use Rattle.ps_certificate.specs.Written.{pairs, IsWord}
use Rattle.ps_game.specs.declared.nonzero.NonzeroCount.{NonzeroCount}
use Rattle.ps_certificate.proofs.SparseRows.Sparse.{count_missing, counts_behind, place_within, same_place, other_place}
use Rattle.ps_certificate.proofs.SparseRows.Sparse.{number_at, row_at, length-counts_from}

abbrev pub stored_pairs : List ℕ → List NonzeroCount → List ℕ
stored_pairs ps [] = []
stored_pairs ps (one ∷ placed) = if one.count == 0 then stored_pairs ps placed
    else 32 ∷ decimal (slice_index ps one.place) ++ 58 ∷ decimal one.count ++ stored_pairs ps placed

no_pairs : (ps : List ℕ) → pairs ps [] ≡ []
no_pairs [] = refl
no_pairs (p ∷ ps) = refl

-- the text of the counts from index `k` on begins with the pair at this index, unless its count is 0
pairs_at : (ps : List ℕ) (placed : List NonzeroCount) (n k : ℕ) → k < length ps →
    pairs (drop k ps) (counts_from placed (suc n) k) ≡
    (if count_at placed k == 0 then pairs (drop (k + 1) ps) (counts_from placed n (suc k))
    else 32 ∷ decimal (slice_index ps k) ++ 58 ∷ decimal (count_at placed k)
    ++ pairs (drop (k + 1) ps) (counts_from placed n (suc k)))
pairs_at ps placed n k within = ap (λ qs. pairs qs (counts_from placed (suc n) k)) (drop_more ps k 0 within)

none_before : (from width : ℕ) (placed : List NonzeroCount) (k : ℕ) → Rises from width placed → k < from →
    count_at placed k ≡ 0
none_before from width placed k rises before = count_missing placed k (λ i within same. omega
    (arith, same, before, (place_within from width placed i rises within).0))

pairs_from : (ps : List ℕ) (placed : List NonzeroCount) (n k : ℕ) → length ps ≡ k + n → Rises k (k + n) placed →
    pairs (drop k ps) (counts_from placed n k) ≡ stored_pairs ps placed
pairs_from ps [] zero k long rises = no_pairs (drop k ps)
pairs_from ps (one ∷ placed) zero k long rises = absurd (omega (arith, rises.0, rises.1))
pairs_from ps [] (suc n) k long rises =
    grind (arith, pairs_at ps [] n k (omega (arith, long)), pairs_from ps [] n (suc k) (omega (arith, long)) tt)
pairs_from ps (one ∷ placed) (suc n) k long rises = elim (cases_eq one.place k) [
  | inl here ↦ grind (
    arith,
    pairs_at ps (one ∷ placed) n k (omega (arith, long)),
    same_place one placed here,
    counts_behind one placed n (suc k) (omega (arith, here)),
    pairs_from ps placed n (suc k) (omega (arith, long)) (behind here),
  )
  | inr later ↦ grind (
    arith,
    pairs_at ps (one ∷ placed) n k (omega (arith, long)),
    none_before one.place (k + suc n) (one ∷ placed) k (omega arith, rises.1, rises.2)
        (omega (arith, later, rises.0)),
    pairs_from ps (one ∷ placed) n (suc k) (omega (arith, long))
        (omega (arith, later, rises.0), omega (arith, rises.1), behind_width),
  )
]
  where
    to : suc k + n ≡ k + suc n
    to = omega arith

    behind_width : Rises (suc one.place) (suc k + n) placed
    behind_width = subst (λ w. Rises (suc one.place) w placed) (sym to) rises.2

    behind : one.place ≡ k → Rises (suc k) (suc k + n) placed
    behind here = subst (λ j. Rises (suc j) (suc k + n) placed) here behind_width

pub pairs_stored : (ps : List ℕ) (placed : List NonzeroCount) (width : ℕ) → width ≡ length ps → IsRow width placed →
    pairs ps (dense_row width placed) ≡ stored_pairs ps placed
pairs_stored ps placed width long rises =
    let none : 0 + width ≡ width = omega arith in
    pairs_from ps placed width 0 (omega (arith, long)) (subst (λ w. Rises 0 w placed) (sym none) rises)

-- each of the first `i` stored counts fits in 64 bits
abbrev pub AreWords : List NonzeroCount → ℕ → Type 0
AreWords placed i = (j : ℕ) → j < i → IsWord (number_at placed j)

count_word : (placed : List NonzeroCount) (k : ℕ) → AreWords placed (length placed) → IsWord (count_at placed k)
count_word [] k words = omega arith
count_word (one ∷ placed) k words = elim (cases_eq one.place k) [
  | inl here ↦ omega (arith, same_place one placed here, words 0 (omega arith))
  | inr other ↦ omega (
    arith,
    other_place one placed k other,
    count_word placed k (λ j within. words (suc j) (omega (arith, within))),
  )
]

pub row_words : (placed : List NonzeroCount) (width i : ℕ) → AreWords placed i → length placed ≤ i →
    All IsWord (dense_row width placed)
row_words placed width i words all k d within =
    let inside : k < width = omega (arith, within, length-counts_from placed width 0) in
    omega (
      arith,
      get_or_default (dense_row width placed) k 0 d within,
      row_at placed width k inside,
      count_word placed k (λ j less. words j (omega (arith, less, all))),
    )
