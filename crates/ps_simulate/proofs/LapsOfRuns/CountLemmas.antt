-- A list of distinct lists of k bits has at most 2^k entries.
use Rattle.std.proofs.Common.{◌≡◌, ◌≢◌, ℕ, suc, ◌+◌, ◌*◌, ◌^◌, ◌<◌, ◌≤◌, Bool, true, false, List, [], ◌∷◌, length}
use Rattle.std.proofs.Common.{get_or, map, refl, arith, rules, cond, ◌++◌, ◌⊎◌, inl, inr, length-append}
use Rattle.std.proofs.Math.Nat.{pow-suc}
use Rattle.std.proofs.Math.Dec.{eqb}
use Rattle.std.specs.List.{list_any}
use Rattle.std.proofs.lemmas.Bool.{ne_eqb, eqb-true, cases_lt}
use Rattle.std.proofs.lemmas.List.{length-map, get_or-map, get_or_append_left}
use Rattle.std.proofs.lemmas.Map.Keys.{IsDistinct-from_apart}
use Rattle.std.proofs.lemmas.Map.Steps.{length-le_from_distinct_below}
use Rattle.std.proofs.Math.Seq.{get_or-append_seam}

-- an entry of an extended list is an entry of the original list, or the new last entry
pub at_push : {X : Type 0} (xs : List X) (x d : X) (k : ℕ) → k < length (xs ++ x ∷ []) →
    ((k < length xs) × (get_or (xs ++ x ∷ []) k d ≡ get_or xs k d)) ⊎
    ((k ≡ length xs) × (get_or (xs ++ x ∷ []) k d ≡ x))
at_push xs x d k lt = elim (cases_lt k (length xs)) [
  | inl less ↦ inl (less, get_or_append_left xs (x ∷ []) d k less)
  | inr ge ↦ grind (arith, length-append xs (x ∷ []), get_or-append_seam xs x [] d)
]

-- a list of bits as a number
abbrev pub code : List Bool → ℕ
code [] = 0
code (b ∷ bs) = cond b 1 0 + 2 * code bs

pub code_lt : (bs : List Bool) → code bs < 2 ^ length bs
code_lt [] = omega arith
code_lt (b ∷ bs) = grind (arith, pow-suc 2 (length bs), code_lt bs)

pub code_same : (xs ys : List Bool) → length xs ≡ length ys → code xs ≡ code ys → xs ≡ ys
code_same [] [] l e = refl
code_same [] (y ∷ ys) l e = absurd (omega arith)
code_same (x ∷ xs) [] l e = absurd (omega arith)
code_same (x ∷ xs) (y ∷ ys) l e = grind (arith, code_same xs ys)

below : (n : ℕ) (xs : List ℕ) → ((k : ℕ) → k < length xs → get_or xs k 0 < n) → (q : ℕ) →
    list_any (eqb q) xs ≡ true → q < n
below n [] all q e = cc
below n (x ∷ xs) all q e =
    grind (arith, eqb-true q x, all 0 (omega arith), below n xs (λ k lt. all (suc k) (omega arith)) q)

-- a list of distinct numbers below n has at most n entries
pub few_below : (n : ℕ) (xs : List ℕ) → ((k : ℕ) → k < length xs → get_or xs k 0 < n) →
    ((k l d : ℕ) → k < l → l < length xs → get_or xs k d ≢ get_or xs l d) → length xs ≤ n
few_below n xs all differ = search (rules, length-le_from_distinct_below, IsDistinct-from_apart, ne_eqb, below)

pub few_seen : (n : ℕ) (seen : List (List Bool)) → ((k : ℕ) → k < length seen → length (get_or seen k []) ≡ n)
    → ((k l : ℕ) → k < l → l < length seen → get_or seen k [] ≢ get_or seen l []) → length seen ≤ 2 ^ n
few_seen n seen wide differ =
    let codes = map code seen in
    let size : length codes ≡ length seen = length-map seen code in
    let at : (k : ℕ) → k < length seen → (d : ℕ) → get_or codes k d ≡ code (get_or seen k []) =
    λ k lt d. get_or-map code seen k [] d lt in
    let apart : (i j d : ℕ) → i < j → j < length codes → eqb (get_or codes i d) (get_or codes j d) ≡ false =
    search (rules, ne_eqb, code_same) in
    let le : length codes ≤ 2 ^ n = length-le_from_distinct_below codes (2 ^ n) (IsDistinct-from_apart eqb codes apart)
    (below (2 ^ n) codes (λ k lt. grind (arith, code_lt))) in
    omega arith
