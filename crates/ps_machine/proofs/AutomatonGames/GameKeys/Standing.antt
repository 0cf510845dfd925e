-- Facts about lists of keys, in which a vertex's number is the index of its key, and about lists of numbers without
-- repeats.
use Rattle.std.proofs.Common.{◌≡◌, ◌≢◌, ℕ, zero, suc, ◌+◌, ◌<◌, true, false, List, [], ◌∷◌, ◌++◌, length, get_or, Some}
use Rattle.std.proofs.Common.{refl, ap, ◌∙◌, arith, ◌==◌, ◌||◌}
use Rattle.std.specs.List.{All, AllPairs, AllZip, Contains, range_with_len, slice_get, list_any}
use Rattle.std.proofs.lemmas.Option.{slice_get_within}
use Rattle.std.proofs.lemmas.List.Elements.{Contains-get_or}
use Rattle.std.proofs.lemmas.List.Folds.{list_any_at}
use Rattle.std.proofs.lemmas.List.FromFn.{get_or-range_with_len, length-range_with_len}
use Rattle.std.proofs.lemmas.Bool.Decides.{nat_tests}
use Rattle.std.proofs.lemmas.Slice.Zip.{AllZip-long}
use Rattle.ps_game.specs.Drafts.{distinct}
use Rattle.ps_game.proofs.StoredGames.Finished.{All-distinct}
use Rattle.ps_machine.specs.Numbering.{StandsAt}
use Rattle.ps_machine.specs.declared.key.Key.{Key}
use Rattle.ps_machine.specs.declared.key.Key.TheVariants.{First, Second}
use Rattle.ps_diagram.proofs.ClassesOfLetters.Distinct.{at_left}

-- if Some a equals Some b, the vertex keys a and b are equal
pub same_some : {key other : Key} → Some key ≡ Some other → key ≡ other
same_some e = cc

-- a vertex at which the first player moves stands for only one state
pub one_state : (keys : List Key) (v : ℕ) {q : ℕ} (p : ℕ) {r : ℕ} (m : ℕ) → StandsAt keys v (First q p) →
    StandsAt keys v (First r m) → q ≡ r
one_state keys v p m at there = cc

-- no key stands for vertices of both players
pub no_second : {q p r x : ℕ} → First q p ≡ Second r x → ⊥
no_second e = cc

pub not_second : {q p r x : ℕ} → Second r x ≡ First q p → ⊥
not_second e = cc

pub class_letter : {q r x y : ℕ} → Second q x ≡ Second r y → x ≡ y
class_letter e = cc

pub slice_get-seam : {X : Type 0} (xs : List X) {x : X} → slice_get (xs ++ x ∷ []) (length xs) ≡ Some x
slice_get-seam [] = refl
slice_get-seam (y ∷ xs) = slice_get-seam xs

pub stand-left : (keys added : List Key) (numbers : List ℕ) (next : List Key) → AllZip (StandsAt keys) numbers next →
    AllZip (StandsAt (keys ++ added)) numbers next
stand-left keys added [] [] s = tt
stand-left keys added [] (k ∷ next) s = s
stand-left keys added (n ∷ numbers) [] s = s
stand-left keys added (n ∷ numbers) (k ∷ next) s =
    (at_left keys added n s.0, stand-left keys added numbers next s.1)

-- Let each entry of `numbers` be the vertex that stands for the entry of `next` at the same index. Then, for
-- each index i of `numbers`, `next` has an entry at i, and the vertex `numbers[i]` stands for the key `next[i]`
pub zip_at : (keys : List Key) (numbers : List ℕ) (next : List Key) (i d : ℕ) (e : Key) →
    AllZip (StandsAt keys) numbers next → i < length numbers →
    (i < length next) × StandsAt keys (get_or numbers i d) (get_or next i e)
zip_at keys [] next i d e s within = absurd (omega arith)
zip_at keys (n ∷ numbers) [] i d e s within = absurd s
zip_at keys (n ∷ numbers) (k ∷ next) zero d e s within = (omega arith, s.0)
zip_at keys (n ∷ numbers) (k ∷ next) (suc i) d e s within =
    grind (arith, zip_at keys numbers next i d e s.1 (omega arith))

-- if each entry of `numbers` is the vertex that stands for the entry of `next` at the same index, `numbers` has a
-- vertex for each key in `next`
pub zip_vertex : (keys : List Key) (numbers : List ℕ) (next : List Key) {k : Key} →
    AllZip (StandsAt keys) numbers next → Contains next k → (w : ℕ) × Contains numbers w × StandsAt keys w k
zip_vertex keys numbers next {k} zip c =
    let within : c.0 < length numbers = omega (arith, c.1, AllZip-long (StandsAt keys) numbers next zip) in
    grind (arith, Contains-get_or numbers c.0 0 within, zip_at keys numbers next c.0 0 k zip within)

pub stand-within : (keys : List Key) (numbers : List ℕ) (next : List Key) → AllZip (StandsAt keys) numbers next →
    All (λ w. w < length keys) numbers
stand-within keys numbers next s k d within =
    let at = zip_at keys numbers next k d (First 0 0) s within in
    slice_get_within keys (get_or numbers k d) (get_or next k (First 0 0)) at.1

pub stand-apart : (keys : List Key) (numbers : List ℕ) (next : List Key) → AllZip (StandsAt keys) numbers next →
    AllPairs (λ x y. x ≢ y) next → AllPairs (λ x y. x ≢ y) numbers
stand-apart keys numbers next s differ i j d rises within same =
    let e : Key = First 0 0 in
    grind (arith, zip_at keys numbers next i d e s (omega arith), zip_at keys numbers next j d e s within)

-- if a list, after repeats are removed, is 0, 1, and so on up to count - 1, each number less than `count` is in the
-- list
pub came : (xs : List ℕ) (count n : ℕ) → distinct xs ≡ range_with_len 0 count → n < count →
    list_any (λ y. y == n) xs ≡ true
came xs count n e within =
    let long : n < length (distinct xs) = rw e (omega (arith, within, length-range_with_len 0 count)) in
    let all : All (Contains xs) (distinct xs) = All-distinct (Contains xs) xs (λ k d w. Contains-get_or xs k d w) in
    let is : get_or (distinct xs) n 0 ≡ n =
    omega (arith, ap (λ l. get_or l n 0) e, get_or-range_with_len 0 count n 0 within) in
    let at : Contains xs n = rw is at (all n 0 long) in
    grind (arith, list_any_at, is_it)
  where
    is_it : {x y : ℕ} → x ≡ y → (x == y) ≡ true
    is_it e = grind (arith, nat_tests)

pub not_come : (xs : List ℕ) (count : ℕ) → All (λ w. w < count) xs → list_any (λ y. y == count) xs ≡ false
not_come [] count below = refl
not_come (x ∷ xs) count below = ap (λ b. b || list_any (λ y. y == count) xs) (other x count (below 0 0 (omega arith)))
    ∙ not_come xs count (λ k d within. below (suc k) d (omega arith))
  where
    other : (x y : ℕ) → x < y → (x == y) ≡ false
    other x y less = grind (arith, nat_tests)

pub range_more : (a count : ℕ) → range_with_len a count ++ (a + count) ∷ [] ≡ range_with_len a (suc count)
range_more a zero = ap (λ n. n ∷ []) (omega arith)
range_more a (suc count) = grind (arith, range_more (a + 1) count)

pub range_next : (a count : ℕ) → range_with_len a count ++ (a + count) ∷ [] ≡ range_with_len a (count + 1)
range_next a count = grind (arith, range_more a count)

pub range-push : (count : ℕ) → range_with_len 0 count ++ count ∷ [] ≡ range_with_len 0 (count + 1)
range-push count = grind (arith, range_more 0 count)
