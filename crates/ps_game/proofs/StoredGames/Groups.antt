-- Lists of 64-bit words that SIMD code processes eight at a time.
use Rattle.std.proofs.Common.{◌≡◌, ℕ, zero, suc, ◌+◌, ◌-◌, ◌*◌, ◌^◌, ◌<◌, ◌≤◌, List, [], ◌∷◌, length, take, map, get_or}
use Rattle.std.proofs.Common.{rules, refl, sym, ap, ap₂, ◌∙◌, inl, inr, arith}
use Rattle.std.specs.Int.Bits.{bit_or, or_zero_l}
use Rattle.std.specs.List.{fold, sum_by}
use Rattle.std.specs.Simd.Lanes.{zip2, chunk, put_chunk, fold_l}
use Rattle.std.proofs.Math.Seq.{take-add}
use Rattle.std.proofs.lemmas.Bool.{cases_lt}
use Rattle.std.proofs.lemmas.List.Sums.{sum_by-append, sum_by-take-le}
use Rattle.std.proofs.lemmas.Nat.{le_or_l, le_or_r}
use Rattle.std.proofs.lemmas.Simd.{get_or-put_chunk_below, get_or-put_chunk_at, get_or-put_chunk_above, get_or-zip2}
use Rattle.std.proofs.lemmas.Simd.{get_or-chunk, length-chunk, length-zip2}

-- each of the first n words was combined by f with the number that h gives for its index, and the remaining words are
-- unchanged
pub record AreCombined (f : ℕ → ℕ → ℕ) (h : ℕ → ℕ) (old words : List ℕ) (n : ℕ) : Type 0 where
  pub done : (k : ℕ) → k < n → get_or words k 0 ≡ f (get_or old k 0) (h k)
  pub rest : (k : ℕ) → n ≤ k → get_or words k 0 ≡ get_or old k 0

-- eight more words are combined with the eight lanes of a vector
pub group_combined : {f : ℕ → ℕ → ℕ} {h : ℕ → ℕ} {old words : List ℕ} (lanes : List ℕ) (group : ℕ) →
    AreCombined f h old words (group * 8) → (group + 1) * 8 ≤ length words → length lanes ≡ 8 →
    ((j : ℕ) → j < 8 → get_or lanes j 0 ≡ h (group * 8 + j)) →
    AreCombined f h old (put_chunk (group * 8) words (zip2 f (chunk (group * 8) 8 words) lanes)) ((group + 1) * 8)
group_combined {f = f} {h = h} {old = old} {words = words} lanes group before room eight values =
    let start = group * 8 in
    let loaded = chunk start 8 words in
    let long : length loaded ≡ 8 = length-chunk start 8 words (omega arith) in
    let made = zip2 f loaded lanes in
    let same : length made ≡ 8 = length-zip2 f loaded lanes (long ∙ sym eight) ∙ long in
    record {
      done = λ k lt. elim (cases_lt k start) [
        | inl less ↦ get_or-put_chunk_below start words made k 0 less ∙ before.done k less
        | inr beyond ↦
            let j = k - start in
            let e : start + j ≡ k = omega arith in
            rw (← e) (get_or-put_chunk_at start words made j 0 (omega arith) (omega arith)
            ∙ get_or-zip2 f loaded lanes j 0 0 0 (omega arith) (omega arith)
            ∙ ap₂ f (get_or-chunk start 8 words j 0 (omega arith) ∙ before.rest (start + j) (omega arith))
            (values j (omega arith)))
      ];
      rest = search (rules, get_or-put_chunk_above, before.rest);
    }

-- ---- the bitwise or of all lanes of a vector is 0 if and only if each lane is 0

or_start : (xs : List ℕ) (a : ℕ) → fold_l bit_or a xs ≡ 0 → a ≡ 0
or_start [] a e = e
or_start (x ∷ xs) a e = omega (arith, or_start xs (bit_or a x) e, le_or_l a x)

pub clear_from_or : (xs : List ℕ) (a : ℕ) → fold_l bit_or a xs ≡ 0 → (k : ℕ) → get_or xs k 0 ≡ 0
clear_from_or [] a e k = refl
clear_from_or (x ∷ xs) a e zero = omega (arith, or_start xs (bit_or a x) e, le_or_r a x)
clear_from_or (x ∷ xs) a e (suc k) = clear_from_or xs (bit_or a x) e k

pub or_of_clear : (xs : List ℕ) (a : ℕ) → a ≡ 0 → ((k : ℕ) → k < length xs → get_or xs k 0 ≡ 0) → fold_l bit_or a xs ≡ 0
or_of_clear [] a none clear = none
or_of_clear (x ∷ xs) a none clear = or_of_clear xs (bit_or a x) (ap₂ bit_or none (clear 0 (omega arith)) ∙ or_zero_l 0)
    (λ k less. clear (suc k) (omega arith))

-- if the bitwise or of a group of eight words is 0, and all words before the group are 0, all words up to the group's
-- end are 0
pub group_clear : (words : List ℕ) (group : ℕ) → fold_l bit_or 0 (chunk (group * 8) 8 words) ≡ 0
    → ((k : ℕ) → k < group * 8 → get_or words k 0 ≡ 0) → (k : ℕ) → k < (group + 1) * 8 → get_or words k 0 ≡ 0
group_clear words group none before k lt = elim (cases_lt k (group * 8)) [
  | inl less ↦ before k less
  | inr beyond ↦
      let j = k - group * 8 in
      grind (
        arith,
        get_or-chunk (group * 8) 8 words j 0 (omega arith),
        clear_from_or (chunk (group * 8) 8 words) 0 none j,
      )
]

-- if all words are 0, the bitwise or of each group of eight words is 0
pub clear_group : (words : List ℕ) (group groups : ℕ) → group < groups → groups * 8 ≤ length words
    → ((k : ℕ) → k < groups * 8 → get_or words k 0 ≡ 0) → fold_l bit_or 0 (chunk (group * 8) 8 words) ≡ 0
clear_group words group groups lt room clear =
    let long : length (chunk (group * 8) 8 words) ≡ 8 = length-chunk (group * 8) 8 words (omega arith) in
    or_of_clear (chunk (group * 8) 8 words) 0 refl
    (λ j less. get_or-chunk (group * 8) 8 words j 0 (omega arith) ∙ clear (group * 8 + j) (omega arith))

-- ---- sums over the lanes of a vector

summed : (f g : ℕ → ℕ) → ((x : ℕ) → g (f x) ≡ f x) → (xs : List ℕ) (a : ℕ) →
    fold_l (λ s x. s + x) a (map g (map f xs)) ≡ fold (λ s x. s + f x) a xs
summed f g same [] a = refl
summed f g same (x ∷ xs) a =
    ap (λ n. fold_l (λ s x. s + x) (a + n) (map g (map f xs))) (same x) ∙ summed f g same xs (a + f x)

-- The sum of f over the words before a group of eight, plus the sum of f over the group's lanes, is the sum of f over
-- the words up to the group's end. The function g, a cast to another integer type, changes none of the summands.
pub group_summed : (f g : ℕ → ℕ) (words : List ℕ) (group count : ℕ) → ((x : ℕ) → g (f x) ≡ f x) →
    count ≡ sum_by f (take (group * 8) words)
    → count + fold_l (λ s x. s + x) 0 (map g (map f (chunk (group * 8) 8 words))) ≡ sum_by f
    (take ((group + 1) * 8) words)
group_summed f g words group count same before =
    let front = take (group * 8) words in
    let here = chunk (group * 8) 8 words in
    grind (arith, summed f g same here 0, sum_by-append f front here, take-add (group * 8) 8 words)

-- the sum over the words up to the end of a group fits in 64 bits if the sum over all words does
pub group_fits : (f g : ℕ → ℕ) (words : List ℕ) (group count : ℕ) → ((x : ℕ) → g (f x) ≡ f x) →
    count ≡ sum_by f (take (group * 8) words)
    → sum_by f words < 2 ^ 64 → count + fold_l (λ s x. s + x) 0 (map g (map f (chunk (group * 8) 8 words))) < 2 ^ 64
group_fits f g words group count same before room =
    omega (arith, group_summed f g words group count same before, sum_by-take-le f words ((group + 1) * 8))
