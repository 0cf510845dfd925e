-- Lemmas about a vertex's counts, of which only the nonzero ones are stored.
use Rattle.std.proofs.Common.{◌≡◌, ◌≢◌, ℕ, zero, suc, ◌+◌, ◌<◌, ◌≤◌, ◌∙◌, List, [], ◌∷◌, ◌++◌, length, get_or, refl}
use Rattle.std.proofs.Common.{sym, ap, arith, replicate, cond, inl, inr, ◌-◌, rules}
use Rattle.std.proofs.lemmas.Bool.{cases_order, cases_eq, eq-eqb, ne_eqb}
use Rattle.std.specs.Prelude.{slice_index}
use Rattle.ps_game.specs.Nonzero.{nonzero_from}
use Rattle.ps_certificate.specs.Sparse.{count_at, counts_from, dense_row, Rises, IsRow, place_at, AreRising}
use Rattle.ps_certificate.specs.Sparse.{IsFirstFrom}
use Rattle.ps_game.specs.declared.nonzero.NonzeroCount.{NonzeroCount}

-- ## The counts of a vertex

-- the full list of a vertex's counts that is made for a length n has n counts
pub length-counts_from : (placed : List NonzeroCount) (count place : ℕ) →
    length (counts_from placed count place) ≡ count
length-counts_from ps zero k = refl
length-counts_from ps (suc n) k = ap suc (length-counts_from ps n (suc k))

counts_from_at : (ps : List NonzeroCount) (n k i : ℕ) → i < n → slice_index (counts_from ps n k) i ≡ count_at ps (k + i)
counts_from_at ps zero k i h = absurd (omega (arith, h))
counts_from_at ps (suc n) k zero h = let here : k ≡ k + 0 = omega arith in ap (count_at ps) here
counts_from_at ps (suc n) k (suc i) h = grind (arith, counts_from_at ps n (suc k) i (omega (arith, h)))

pub row_at : (ps : List NonzeroCount) (n i : ℕ) → i < n → slice_index (dense_row n ps) i ≡ count_at ps i
row_at ps n i h = let same : 0 + i ≡ i = omega arith in counts_from_at ps n 0 i h ∙ ap (count_at ps) same

counts_from_more : (ps : List NonzeroCount) (n m k : ℕ) →
    counts_from ps (n + m) k ≡ counts_from ps n k ++ counts_from ps m (k + n)
counts_from_more ps zero m k = search rules
counts_from_more ps (suc n) m k =
    let many : suc n + m ≡ suc (n + m) = omega arith in
    grind (arith, counts_from_more ps n m (suc k))

-- ## Indices

pub place_within : (from width : ℕ) (ps : List NonzeroCount) (i : ℕ) → Rises from width ps → i < length ps →
    (from ≤ place_at ps i) × (place_at ps i < width)
place_within from width [] i h within = absurd (omega (arith, within))
place_within from width (p ∷ ps) zero h within = (h.0, h.1)
place_within from width (p ∷ ps) (suc i) h within = let later =
    place_within (suc p.place) width ps i h.2 (omega (arith, within)) in (omega (arith, later.0, h.0), later.1)

pub rising : (from width : ℕ) (ps : List NonzeroCount) → Rises from width ps → AreRising ps
rising from width [] h i j less within = absurd (omega (arith, within))
rising from width (p ∷ ps) h i zero less within = absurd (omega (arith, less))
rising from width (p ∷ ps) h zero (suc j) less within =
    omega (arith, (place_within (suc p.place) width ps j h.2 (omega (arith, within))).0)
rising from width (p ∷ ps) h (suc i) (suc j) less within =
    rising (suc p.place) width ps h.2 i j (omega (arith, less)) (omega (arith, within))

-- ## The count at an index

abbrev pub number_at : List NonzeroCount → ℕ → ℕ
number_at ps i = (get_or ps i (record { place = 0; count = 0 })).count

pub same_place : (p : NonzeroCount) (ps : List NonzeroCount) {k : ℕ} → p.place ≡ k → count_at (p ∷ ps) k ≡ p.count
same_place p ps {k} h = ap (λ b. cond b p.count (count_at ps k)) (eq-eqb p.place k h)

pub other_place : (p : NonzeroCount) (ps : List NonzeroCount) (k : ℕ) → p.place ≢ k →
    count_at (p ∷ ps) k ≡ count_at ps k
other_place p ps k h = ap (λ b. cond b p.count (count_at ps k)) (ne_eqb p.place k h)

-- a vertex's count at an index that no stored count has is 0
pub count_missing : (ps : List NonzeroCount) (k : ℕ) → ((i : ℕ) → i < length ps → place_at ps i ≢ k) → count_at ps k ≡ 0
count_missing [] k h = refl
count_missing (p ∷ ps) k h =
    other_place p ps k (h 0 (omega arith)) ∙ count_missing ps k (λ i within. h (suc i) (omega (arith, within)))

-- if a vertex has a stored count for an index, the vertex's count at this index is the stored count
pub count_here : (ps : List NonzeroCount) (i : ℕ) → AreRising ps → i < length ps →
    count_at ps (place_at ps i) ≡ number_at ps i
count_here [] i h within = absurd (omega (arith, within))
count_here (p ∷ ps) zero h within = same_place p ps refl
count_here (p ∷ ps) (suc i) h within = let less : p.place < place_at ps i = h 0 (suc i) (omega arith) within in
    other_place p ps (place_at ps i) (λ same. omega (arith, less, same)) ∙ count_here ps i
    (λ a b ab below. h (suc a) (suc b) (omega (arith, ab)) (omega (arith, below))) (omega (arith, within))

module _ (ps : List NonzeroCount) (k n : ℕ) (rises : AreRising ps) (first : IsFirstFrom ps k n) where
  pub count_first : n < length ps → place_at ps n ≡ k → count_at ps k ≡ number_at ps n
  count_first within same = ap (count_at ps) (sym same) ∙ count_here ps n rises within

  pub count_none : (n < length ps → place_at ps n ≢ k) → count_at ps k ≡ 0
  count_none other = search (rules, count_missing, cases_order)

-- ## Appending counts

pub row_next : (ps : List NonzeroCount) (n : ℕ) → dense_row (n + 1) ps ≡ dense_row n ps ++ count_at ps n ∷ []
row_next ps n = search (rules, counts_from_more)

zeros_from : (ps : List NonzeroCount) (n k : ℕ) →
    ((i : ℕ) → i < length ps → k ≤ place_at ps i → k + n ≤ place_at ps i) →
    counts_from ps n k ≡ replicate n 0
zeros_from ps zero k h = refl
zeros_from ps (suc n) k h = ap (λ c. c ∷ counts_from ps n (suc k)) (grind (arith, count_missing))
    ∙ ap (λ rest. 0 ∷ rest) (zeros_from ps n (suc k) (λ i within late. omega (arith, h i within (omega (arith, late)))))

-- if no stored count has an index from `from` to `to` - 1, extending the counts to length `to` appends zeros
pub row_to : (ps : List NonzeroCount) (from to : ℕ) → from ≤ to → ((i : ℕ) → i < length ps →
    from ≤ place_at ps i → to ≤ place_at ps i) → dense_row to ps ≡ dense_row from ps ++ replicate (to - from) 0
row_to ps from to h next = let long : to ≡ from + (to - from) = omega (arith, h) in
    grind (arith, counts_from_more, zeros_from)

-- ## The nonzero counts of a list

nonzero_zero : (k : ℕ) {c : ℕ} (cs : List ℕ) → c ≡ 0 → nonzero_from k (c ∷ cs) ≡ nonzero_from (suc k) cs
nonzero_zero k {c} cs h = search (rules, eq-eqb)

nonzero_other : (k c : ℕ) (cs : List ℕ) → c ≢ 0 →
    nonzero_from k (c ∷ cs) ≡ record { place = k; count = c } ∷ nonzero_from (suc k) cs
nonzero_other k c cs h = search (rules, ne_eqb)

nonzero_rises : (k : ℕ) {w : ℕ} (cs : List ℕ) → k + length cs ≤ w → Rises k w (nonzero_from k cs)
nonzero_rises k [] h = tt
nonzero_rises k {w} (c ∷ cs) h =
    let rest : Rises (suc k) w (nonzero_from (suc k) cs) = nonzero_rises (suc k) cs (omega (arith, h)) in
    grind (arith, cases_eq, nonzero_zero, rises_earlier, nonzero_other)
  where
    rises_earlier : (k w : ℕ) (ps : List NonzeroCount) → Rises (suc k) w ps → Rises k w ps
    rises_earlier k w [] h = tt
    rises_earlier k w (p ∷ ps) h = (omega (arith, h.0), h.1, h.2)

pub nonzero_is_row : (cs : List ℕ) → IsRow (length cs) (nonzero_from 0 cs)
nonzero_is_row cs = nonzero_rises 0 cs (omega arith)

pub counts_behind : (p : NonzeroCount) (ps : List NonzeroCount) (n k : ℕ) → p.place < k →
    counts_from (p ∷ ps) n k ≡ counts_from ps n k
counts_behind p ps zero k h = refl
counts_behind p ps (suc n) k h = grind (arith, counts_behind p ps n (suc k) (omega (arith, h)))

nonzero_counts : (k : ℕ) (cs : List ℕ) → counts_from (nonzero_from k cs) (length cs) k ≡ cs
nonzero_counts k [] = refl
nonzero_counts k (c ∷ cs) = elim (cases_eq c 0) [
  | inl zero_is ↦ search (rules, nonzero_zero, none, nonzero_counts (suc k) cs)
  | inr other ↦
      let p : NonzeroCount = record { place = k; count = c } in
      ap (λ ps. counts_from ps (suc (length cs)) k) (nonzero_other k c cs other)
      ∙ ap (λ n. n ∷ counts_from (p ∷ nonzero_from (suc k) cs) (length cs) (suc k))
      (same_place p (nonzero_from (suc k) cs) refl) ∙ ap (λ rest. c ∷ rest)
      (counts_behind p (nonzero_from (suc k) cs) (length cs) (suc k) (omega arith) ∙ nonzero_counts (suc k) cs)
]
  where
    none : count_at (nonzero_from (suc k) cs) k ≡ 0
    none = count_missing (nonzero_from (suc k) cs) k (λ i within same. grind (
      arith,
      place_within (suc k) (suc k + length cs) (nonzero_from (suc k) cs) i (nonzero_rises (suc k) cs (omega arith))
          within,
    ))

pub row_nonzero : {cs : List ℕ} → dense_row (length cs) (nonzero_from 0 cs) ≡ cs
row_nonzero {cs} = nonzero_counts 0 cs
