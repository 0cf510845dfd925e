-- A lasso consists of a stem and of laps, which are the repetitions of one word. In a deterministic run over a lasso,
-- all sequences of laps that lead from some state back to it have the same greatest priority.
use Rattle.std.proofs.Common.{◌≡◌, ℕ, ◌+◌, ◌-◌, ◌*◌, ◌/◌, ◌%◌, ◌<◌, ◌≤◌, inl, inr, max, suc, zero, List, [], rules, ◌∷◌}
use Rattle.std.proofs.Common.{length, get_or, refl, ap, ◌∙◌, arith, add-one, add-zero, zero-add}
use Rattle.std.proofs.Math.Nat.{eq-or-lt_of_le, le_antisymm, mod-lt, div-add-mod, add-mul-mod_self_right}
use Rattle.std.proofs.Math.Nat.{mul-le-mul_left, suc-add, add-suc}
use Rattle.std.proofs.lemmas.Bool.{le-ltb, lt-ltb}
use Rattle.std.proofs.lemmas.Nat.{mod-mul-add}
use Rattle.ps_label.specs.Words.{lasso_word, Repeats}
use Rattle.ps_automaton.specs.Autos.{Auto, state_at, priority_at, greatest_from, state_behind, greatest_along}
use Rattle.ps_automaton.specs.Autos.{state_after, greatest_of_laps}

-- ## The greatest of some values

pub place_below : (f : ℕ → ℕ) (from count t : ℕ) → from ≤ t → t < from + count → f t ≤ greatest_from f from count
place_below f from zero t low high = absurd (omega arith)
place_below f from (suc count) t low high = grind (arith, place_below f (from + 1) count t)

pub all_below : (f : ℕ → ℕ) (from count bound : ℕ) → ((t : ℕ) → from ≤ t → t < from + count → f t ≤ bound) →
    greatest_from f from count ≤ bound
all_below f from zero bound each = omega arith
all_below f from (suc count) bound each = omega (
  arith,
  each from (omega arith) (omega arith),
  all_below f (from + 1) count bound (λ t low high. grind arith),
)

pub greatest_split : (f : ℕ → ℕ) (from m n : ℕ) → greatest_from f from (m + n) ≡ max (greatest_from f from m)
    (greatest_from f (from + m) n)
greatest_split f from zero n = simp (zero-add, add-zero) (omega arith)
greatest_split f from (suc m) n =
    let further : from + suc m ≡ from + 1 + m = omega arith in
    rw (suc-add, further) (omega (arith, greatest_split f (from + 1) m n))

-- ## Values that repeat

repeats_often : {f : ℕ → ℕ} {from : ℕ} (count : ℕ) → Repeats f from count → (often t : ℕ) → from ≤ t →
    f (t + often * count) ≡ f t
repeats_often {f} count again zero t low = ap f (omega arith)
repeats_often {f} count again (suc often) t low = grind (arith, repeats_often count again often t low)

-- if values repeat with the period `count` from the index `from` on, each value at or after this index is at most the
-- greatest of the `count` values that begin there
later_below : {f : ℕ → ℕ} {from count : ℕ} → Repeats f from count → 0 < count → (t : ℕ) → from ≤ t →
    f t ≤ greatest_from f from count
later_below {f} {from} {count} again some t low =
    let r = (t - from) % count in
    let k = (t - from) / count in
    grind (
      arith,
      mod-lt (t - from) some,
      div-add-mod (t - from) count,
      repeats_often count again k (from + r) (omega arith),
      place_below f from count (from + r) (omega arith) (omega arith),
    )

one_below_other : {f : ℕ → ℕ} {a p b q : ℕ} → Repeats f a p → Repeats f b q → 0 < p → 0 < q →
    greatest_from f a p ≤ greatest_from f b q
one_below_other {f} {a} {p} {b} {q} again later some_p some_q = all_below f a p (greatest_from f b q) (λ t low high.
    let many : b * 1 ≤ b * p = mul-le-mul_left b some_p in
    omega (arith, repeats_often p again b t low, later_below later some_q (t + b * p) (omega arith)))

pub any_return_decides : {f : ℕ → ℕ} {a p b q : ℕ} → Repeats f a p → Repeats f b q → 0 < p → 0 < q →
    greatest_from f a p ≡ greatest_from f b q
any_return_decides again later some_p some_q = search (rules, le_antisymm, one_below_other)

-- ## Words

pub word_within : (stem lap : List ℕ) (t : ℕ) → t < length stem → lasso_word stem lap t ≡ get_or stem t 0
word_within stem lap t low = rw (lt-ltb t (length stem) low)

pub word_behind : (stem lap : List ℕ) (t : ℕ) → length stem ≤ t →
    lasso_word stem lap t ≡ get_or lap ((t - length stem) % length lap) 0
word_behind stem lap t high = rw (le-ltb t (length stem) high)

pub word_repeats : (stem lap : List ℕ) (before laps : ℕ) →
    Repeats (lasso_word stem lap) (length stem + before * length lap)
    (laps * length lap)
word_repeats stem lap before laps t low = grind (
  arith,
  word_behind stem lap (t + laps * length lap) (omega arith),
  add-mul-mod_self_right (t - length stem) laps (length lap),
  word_behind stem lap t (omega arith),
)

pub word_of_lap : (stem lap : List ℕ) (laps k : ℕ) → k < length lap →
    lasso_word stem lap (length stem + laps * length lap + k) ≡ get_or lap k 0
word_of_lap stem lap laps k within = grind (arith, word_behind, mod-mul-add)

-- ## States

pub states_repeat : (a : Auto) {w : ℕ → ℕ} {from : ℕ} (count : ℕ) → Repeats w from count →
    state_at a w (from + count) ≡ state_at a w from → Repeats (state_at a w) from count
states_repeat a {w} {from} count again back zero low = search rules
states_repeat a {w} {from} count again back (suc t) low = elim (eq-or-lt_of_le low) [
  | inl e ↦ rw e at back
  | inr later ↦ rw suc-add (grind (arith, again t, states_repeat a count again back t))
]

pub priorities_repeat : (a : Auto) {w : ℕ → ℕ} {from : ℕ} (count : ℕ) → Repeats w from count →
    state_at a w (from + count) ≡ state_at a w from → Repeats (priority_at a w) from count
priorities_repeat a count again back t low = cc (states_repeat a count again back t low, again t low)

-- ## Lists of letters

pub record IsRead (a : Auto) (w : ℕ → ℕ) (from : ℕ) (letters : List ℕ) : Type 0 where
  pub state : state_at a w (from + length letters) ≡ state_behind a (state_at a w from) letters
  pub greatest : greatest_from (priority_at a w) from (length letters) ≡ greatest_along a (state_at a w from) letters

pub list_is_read : (a : Auto) (w : ℕ → ℕ) (from : ℕ) (letters : List ℕ) →
    ((k : ℕ) → k < length letters → w (from + k) ≡ get_or letters k 0) → IsRead a w from letters
list_is_read a w from [] each = record { state = ap (state_at a w) (add-zero from); greatest = refl }
list_is_read a w from (x ∷ xs) each =
    let first : w from ≡ x = ap w (omega arith) ∙ each 0 (omega arith) in
    let later = list_is_read a w (from + 1) xs (λ k within. ap w (omega arith) ∙ each (suc k) (omega arith)) in
    record { state = grind (arith, add-one, later.state); greatest = grind (arith, add-one, later.greatest) }

pub stem_is_read : (a : Auto) (stem lap : List ℕ) → state_at a (lasso_word stem lap) (length stem) ≡
    state_behind a a.start stem
stem_is_read a stem lap = ap (state_at a (lasso_word stem lap)) (omega arith)
    ∙ (list_is_read a (lasso_word stem lap) 0 stem (λ k within. search (rules, word_within))).state

pub laps_are_read : (a : Auto) (stem lap : List ℕ) (laps : ℕ) →
    state_at a (lasso_word stem lap) (length stem + laps * length lap) ≡ state_after a (state_behind a a.start stem) lap
    laps
laps_are_read a stem lap zero = ap (state_at a (lasso_word stem lap)) (omega arith) ∙ stem_is_read a stem lap
laps_are_read a stem lap (suc laps) = grind (
  arith,
  list_is_read a (lasso_word stem lap) (length stem + laps * length lap) lap (word_of_lap stem lap laps),
  laps_are_read a stem lap laps,
)

pub laps_together : (a : Auto) (q : ℕ) (lap : List ℕ) (m n : ℕ) →
    state_after a q lap (m + n) ≡ state_after a (state_after a q lap m) lap n
laps_together a q lap m zero = ap (state_after a q lap) (add-zero m)
laps_together a q lap m (suc n) = rw add-suc (ap (λ s. state_behind a s lap) (laps_together a q lap m n))

-- the run reads the lasso's stem and `before` repetitions of its repeated part (laps): the greatest priority during the
-- next `laps` laps is `greatest_of_laps`
pub greatest_is_read : (a : Auto) (stem lap : List ℕ) (before laps : ℕ) →
    greatest_from (priority_at a (lasso_word stem lap)) (length stem + before * length lap) (laps * length lap)
    ≡ greatest_of_laps a (state_after a (state_behind a a.start stem) lap before) lap laps
greatest_is_read a stem lap before zero = search rules
greatest_is_read a stem lap before (suc laps) =
    let w = lasso_word stem lap in
    let from = length stem + before * length lap in
    let q = state_behind a a.start stem in
    grind (
      arith,
      list_is_read a w (length stem + (before + laps) * length lap) lap (word_of_lap stem lap (before + laps)),
      laps_are_read a stem lap (before + laps),
      laps_together a q lap before laps,
      greatest_split (priority_at a w) from (laps * length lap) (length lap),
      greatest_is_read a stem lap before laps,
    )
