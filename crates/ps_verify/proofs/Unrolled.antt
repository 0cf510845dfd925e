-- The infinite word that has a stem, and then a lap for ever, begins with each list that has the stem and some laps.
-- - `in_lasso`, `unrolled`: the element of the infinite word at an index is that of such a list
-- - `realigned`: the word is the same, if some laps are counted to the stem, and others are taken together as one lap
use Rattle.std.proofs.Common.{◌≡◌, ◌∙◌, ℕ, zero, suc, ◌+◌, ◌-◌, ◌*◌, ◌%◌, ◌<◌, ◌≤◌, List, [], ◌++◌, length, get_or, map}
use Rattle.std.proofs.Common.{refl, sym, ap, arith, length-append, append_assoc, add-zero, inl, inr}
use Rattle.std.proofs.Math.Nat.{add-suc}
use Rattle.std.specs.Prelude.{nat_lt, if◌then◌else◌}
use Rattle.std.proofs.lemmas.Bool.{cases_lt, le-ltb, lt-ltb}
use Rattle.std.proofs.lemmas.List.{append-nil, get_or_append_left, map-append, get_or-append_right}
use Rattle.std.proofs.lemmas.Nat.{mod-mul-add}

abbrev pub in_lasso : {X : Type 0} → X → (stem lap : List X) → ℕ → X
in_lasso d stem lap t =
    if nat_lt t (length stem) then get_or stem t d else get_or lap ((t - length stem) % length lap) d

abbrev pub laps : {X : Type 0} → List X → ℕ → List X
laps lap zero = []
laps lap (suc count) = laps lap count ++ lap

pub length_laps : {X : Type 0} (lap : List X) (count : ℕ) → length (laps lap count) ≡ count * length lap
length_laps lap zero = omega arith
length_laps lap (suc count) = grind (arith, length-append (laps lap count) lap, length_laps lap count)

-- some laps have as many elements as there are laps, or more
pub many_laps : {X : Type 0} (lap : List X) (count : ℕ) → 0 < length lap → count ≤ length (laps lap count)
many_laps lap zero some = omega arith
many_laps lap (suc count) some = omega (arith, length-append (laps lap count) lap, many_laps lap count some)

pub map_laps : {X Y : Type 0} (f : X → Y) (lap : List X) (count : ℕ) → map f (laps lap count) ≡ laps (map f lap) count
map_laps f lap zero = refl
map_laps f lap (suc count) = map-append f (laps lap count) lap ∙ ap (λ xs. xs ++ map f lap) (map_laps f lap count)

pub laps_together : {X : Type 0} (lap : List X) (m n : ℕ) → laps lap (m + n) ≡ laps lap m ++ laps lap n
laps_together lap m zero = ap (laps lap) (add-zero m) ∙ sym (append-nil (laps lap m))
laps_together lap m (suc n) = rw add-suc (ap (λ xs. xs ++ lap) (laps_together lap m n)
    ∙ append_assoc (laps lap m) (laps lap n) lap)

laps_of_laps : {X : Type 0} (lap : List X) (m n : ℕ) → laps (laps lap m) n ≡ laps lap (n * m)
laps_of_laps lap m zero = let none : zero * m ≡ zero = omega arith in rw none refl
laps_of_laps lap m (suc n) =
    let one_more : suc n * m ≡ n * m + m = omega arith in
    rw one_more (ap (λ xs. xs ++ laps lap m) (laps_of_laps lap m n) ∙ sym (laps_together lap (n * m) m))

lap_at : {X : Type 0} (d : X) (lap : List X) (count k : ℕ) → k < length (laps lap count) →
    get_or (laps lap count) k d ≡ get_or lap (k % length lap) d
lap_at d lap zero k less = absurd (omega arith)
lap_at d lap (suc count) k less = elim (cases_lt k (length (laps lap count))) [
  | inl early ↦ get_or_append_left (laps lap count) lap d k early ∙ lap_at d lap count k early
  | inr late ↦ (let j = k - length (laps lap count) in
      let below : j < length lap = omega (arith, length-append (laps lap count) lap) in
      let at : k ≡ count * length lap + j = omega (arith, length_laps lap count) in
      get_or-append_right (laps lap count) lap (length (laps lap count)) k d refl late
      ∙ ap (λ n. get_or lap n d) (sym (mod-mul-add count (length lap) j below) ∙ ap (λ n. n % length lap) (sym at)))
]

pub unrolled : {X : Type 0} (d : X) (stem lap : List X) (count t : ℕ) → t < length (stem ++ laps lap count) →
    get_or (stem ++ laps lap count) t d ≡ in_lasso d stem lap t
unrolled d stem lap count t less = elim (cases_lt t (length stem)) [
  | inl early ↦ rw (lt-ltb t (length stem) early) (get_or_append_left stem (laps lap count) d t early)
  | inr late ↦ rw (le-ltb t (length stem) late) (
      get_or-append_right stem (laps lap count) (length stem) t d refl late
      ∙ lap_at d lap count (t - length stem) (omega (arith, length-append stem (laps lap count))))
]

pub realigned : {X : Type 0} (d : X) (stem lap : List X) (before many t : ℕ) → 0 < length lap → 0 < many →
    in_lasso d (stem ++ laps lap before) (laps lap many) t ≡ in_lasso d stem lap t
realigned d stem lap before many t some some_laps =
    let count = t + 1 in
    let whole : (stem ++ laps lap before) ++ laps (laps lap many) count ≡ stem ++ laps lap (before + count * many) =
    append_assoc stem (laps lap before) (laps (laps lap many) count)
    ∙ ap (λ xs. stem ++ (laps lap before ++ xs)) (laps_of_laps lap many count)
    ∙ ap (λ xs. stem ++ xs) (sym (laps_together lap before (count * many))) in
    let each = many_laps lap many some in
    let long = many_laps (laps lap many) count (omega arith) in
    let within : t < length ((stem ++ laps lap before) ++ laps (laps lap many) count) =
    omega (arith, length-append (stem ++ laps lap before) (laps (laps lap many) count)) in
    sym (unrolled d (stem ++ laps lap before) (laps lap many) count t within)
    ∙ ap (λ xs. get_or xs t d) whole
    ∙ unrolled d stem lap (before + count * many) t (omega (arith, ap length whole))
