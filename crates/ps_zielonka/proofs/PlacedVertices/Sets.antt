-- The set of the vertices whose level is at least a given one, and the number of these vertices.
use Rattle.std.proofs.Common.{◌≡◌, ℕ, zero, suc, ◌<◌, ◌≤◌, inl, inr, List, [], ◌∷◌, Bool, cond, length, get_or, sym, ap}
use Rattle.std.proofs.Common.{◌∙◌, arith, rules}
use Rattle.std.specs.Prelude.{IsTrue, nat_le}
use Rattle.std.proofs.Math.Path.{fun_ext}
use Rattle.std.proofs.lemmas.Bool.{cases_lt, leb-true, le-leb, lt-leb}
use Rattle.ps_zielonka.specs.Inner.Nests.{from, size_from}

-- each vertex of the set `from levels c` has level c or higher
pub from_at : (levels : List ℕ) (level v : ℕ) → IsTrue (from levels level v) → level ≤ get_or levels v 0
unfolding from
from_at levels c v inside = leb-true c (get_or levels v 0) inside

-- each vertex of level c or higher is in the set `from levels c`
pub to_from : (levels : List ℕ) (level v : ℕ) → level ≤ get_or levels v 0 → IsTrue (from levels level v)
unfolding from
to_from levels c v high = le-leb c (get_or levels v 0) high

-- the vertex v has level c or higher in both lists of levels or in neither
pub record AgreesAt (old new : List ℕ) (c v : ℕ) : Type 0 where
  pub up : c ≤ get_or old v 0 → c ≤ get_or new v 0
  pub back : c ≤ get_or new v 0 → c ≤ get_or old v 0

pub from-same : (old new : List ℕ) (c : ℕ) → ((v : ℕ) → AgreesAt old new c v) → from new c ≡ from old c
unfolding from
from-same old new c agrees = fun_ext (λ v. elim (cases_lt (get_or old v 0) c) [
  | inl less ↦ (
      let below : get_or new v 0 < c = elim (cases_lt (get_or new v 0) c) [
        | inl low ↦ low
        | inr high ↦ (absurd (omega (arith, (agrees v).back high)))
      ] in
      lt-leb c (get_or new v 0) below ∙ sym (lt-leb c (get_or old v 0) less))
  | inr more ↦ le-leb c (get_or new v 0) ((agrees v).up more) ∙ sym (le-leb c (get_or old v 0) more)
])

-- ## The number of vertices

abbrev count_true : Bool → ℕ
count_true b = cond b 1 0

abbrev one : ℕ → ℕ → ℕ
one c level = cond (nat_le c level) 1 0

one_is : (c level : ℕ) → c ≤ level → one c level ≡ 1
one_is c level high = ap count_true (le-leb c level high)

one_not : (c level : ℕ) → level < c → one c level ≡ 0
one_not c level low = ap count_true (lt-leb c level low)

one-le : (c d level now : ℕ) → (d ≤ now → c ≤ level) → one d now ≤ one c level
one-le c d level now more = search (rules, cases_lt, one_not, one_is)

pub size_from-le : (c d : ℕ) (old new : List ℕ) → length new ≡ length old →
    ((v : ℕ) → v < length old → d ≤ get_or new v 0 → c ≤ get_or old v 0) → size_from d new ≤ size_from c old
size_from-le c d [] [] sizes more = omega arith
size_from-le c d [] (y ∷ ys) sizes more = absurd (omega arith)
size_from-le c d (x ∷ xs) [] sizes more = absurd (omega arith)
size_from-le c d (x ∷ xs) (y ∷ ys) sizes more =
    let here : one d y ≤ one c x = one-le c d x y (more 0 (omega arith)) in
    let behind : size_from d ys ≤ size_from c xs =
    size_from-le c d xs ys (omega arith) (λ v within. more (suc v) (omega arith)) in
    omega arith

-- if the vertices whose new level is at least d are a proper subset of the vertices whose old level was at least c,
-- they are fewer
pub size_from-lt : (c d : ℕ) (old new : List ℕ) (u : ℕ) → length new ≡ length old →
    ((v : ℕ) → v < length old → d ≤ get_or new v 0 → c ≤ get_or old v 0) → u < length old → c ≤ get_or old u 0 →
    get_or new u 0 < d → size_from d new < size_from c old
size_from-lt c d [] new u sizes more within high low = absurd (omega arith)
size_from-lt c d (x ∷ xs) [] u sizes more within high low = absurd (omega arith)
size_from-lt c d (x ∷ xs) (y ∷ ys) zero sizes more within high low =
    let here : one d y ≡ 0 = one_not d y low in
    let there : one c x ≡ 1 = one_is c x high in
    let behind : size_from d ys ≤ size_from c xs =
    size_from-le c d xs ys (omega arith) (λ v within. more (suc v) (omega arith)) in
    omega arith
size_from-lt c d (x ∷ xs) (y ∷ ys) (suc u) sizes more within high low =
    let here : one d y ≤ one c x = one-le c d x y (more 0 (omega arith)) in
    let behind : size_from d ys < size_from c xs =
    size_from-lt c d xs ys u (omega arith) (λ v within. more (suc v) (omega arith)) (omega arith) high low in
    omega arith

pub size_from-same : (c : ℕ) (old new : List ℕ) → length new ≡ length old → ((v : ℕ) → AgreesAt old new c v) →
    size_from c new ≡ size_from c old
size_from-same c old new sizes agrees =
    let down : size_from c new ≤ size_from c old = size_from-le c c old new sizes (λ v within. (agrees v).back) in
    let up : size_from c old ≤ size_from c new = size_from-le c c new old (sym sizes) (λ v within. (agrees v).up) in
    omega arith
