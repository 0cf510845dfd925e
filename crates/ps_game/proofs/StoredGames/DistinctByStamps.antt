-- Removing repeated numbers from a list, by marking each number that occurred with a stamp.
use Rattle.std.proofs.Common.{rules, inl, inr, ◌≡◌, ◌≢◌, ℕ, ◌+◌, ◌<◌, ◌≤◌, List, [], ◌∷◌, ◌++◌, cond, Bool, not, ◌||◌}
use Rattle.std.proofs.Common.{◌==◌, filter, length, take, get_or, set, refl, ap, ◌∙◌, sym, arith}
use Rattle.std.proofs.Math.Nat.{le_refl}
use Rattle.std.specs.List.{All, list_any}
use Rattle.std.proofs.lemmas.List.{append-nil, take_more, take_more_set, get_or-set_other, ext_get_or, get_or-map}
use Rattle.std.proofs.lemmas.List.{length-map}
use Rattle.std.proofs.lemmas.List.Elements.{filter-append, All-set}
use Rattle.std.proofs.lemmas.List.Folds.{list_any_more}
use Rattle.std.proofs.Math.Bool.{or-false, or-true}
use Rattle.std.proofs.lemmas.Bool.{cases_eq, eq-eqb, ne_eqb}
use Rattle.std.proofs.lemmas.Grind.{get_or-set_at}
use Rattle.ps_game.specs.Games.{ParityGame, no_vertex}
use Rattle.ps_game.specs.Drafts.{distinct, vertex_without_repeats, without_repeats}

filter-cond : (p : ℕ → Bool) (b : Bool) (xs ys : List ℕ) → filter p (cond b xs ys) ≡ cond b (filter p xs) (filter p ys)
filter-cond p b xs ys = search rules

-- x is appended to the distinct numbers `y ∷ ys` of a list, unless x is the list's head y (`e` is true) or is in the
-- list's tail (`b` is true)
kept_or_not : (e b : Bool) (x y : ℕ) (ys : List ℕ) → y ∷ cond b ys (ys ++ cond (not e) (x ∷ []) []) ≡ cond (e || b)
    (y ∷ ys) ((y ∷ ys) ++ x ∷ [])
kept_or_not e b x y ys = search (rules, append-nil)

-- the distinct numbers of a list with one more number: the number is dropped if it occurred before, and otherwise
-- appended
pub distinct-push : (xs : List ℕ) (x : ℕ) → distinct (xs ++ x ∷ []) ≡ cond (list_any (λ y. y == x) xs) (distinct xs)
    (distinct xs ++ x ∷ [])
distinct-push [] x = refl
distinct-push (y ∷ ys) x = search (rules, filter-cond, filter-append, kept_or_not, distinct-push ys x)

-- The positions before `place` were visited. The first `kept` numbers are the distinct numbers at the visited
-- positions, in order of first occurrence. The numbers at the index `place` and after it are unchanged. For each
-- number, the list `seen` has the value `stamp` if and only if the number occurred at a visited position
pub record IsKept (before numbers seen : List ℕ) (stamp place kept : ℕ) : Type 0 where
  pub few : kept ≤ place
  pub front : take kept numbers ≡ distinct (take place before)
  pub back : (k : ℕ) → place ≤ k → get_or numbers k 0 ≡ get_or before k 0
  pub stamped : All (λ earlier. earlier ≤ stamp) seen
  pub marks : (u : ℕ) → u < length seen → list_any (λ x. x == u) (take place before) ≡ (get_or seen u 0 == stamp)

distinct-more : (before : List ℕ) (place : ℕ) → place < length before →
    distinct (take (place + 1) before) ≡ cond (list_any (λ y. y == get_or before place 0) (take place before))
    (distinct (take place before)) (distinct (take place before) ++ get_or before place 0 ∷ [])
distinct-more before place within =
    ap distinct (take_more before place 0 within) ∙ distinct-push (take place before) (get_or before place 0)

-- the number at position `place` is marked with the stamp, and the marks of all other numbers are unchanged
marks_more : (before seen later : List ℕ) (stamp place number : ℕ) → place < length before →
    get_or before place 0 ≡ number → length later ≡ length seen → get_or later number 0 ≡ stamp →
    ((u : ℕ) → u ≢ number → get_or later u 0 ≡ get_or seen u 0) →
    ((u : ℕ) → u < length seen → list_any (λ x. x == u) (take place before) ≡ (get_or seen u 0 == stamp)) → (u : ℕ) →
    u < length later → list_any (λ x. x == u) (take (place + 1) before) ≡ (get_or later u 0 == stamp)
marks_more before seen later stamp place number inside same long here elsewhere marks u below =
    list_any_more (λ x. x == u) before place 0 inside ∙ elim (cases_eq u number) [
      | inl e ↦ rw (e, same, here, eq-eqb number number refl, eq-eqb stamp stamp refl) (or-true _)
      | inr other ↦ search (rules, same, ne_eqb, or-false)
    ]

module _ {before numbers seen : List ℕ} {stamp place kept number : ℕ}
    (so_far : IsKept before numbers seen stamp place kept) (within : place < length numbers)
    (as_long : length numbers ≡ length before) (is : get_or numbers place 0 ≡ number) (known : number < length seen)
  where
    same : get_or before place 0 ≡ number
    same = sym (so_far.back place (le_refl place)) ∙ is

    -- a number that did not occur at an earlier position is appended to the numbers kept so far
    pub keep : get_or seen number 0 ≢ stamp →
        IsKept before (set numbers kept number) (set seen number stamp) stamp (place + 1) (kept + 1)
    keep fresh =
        let few : kept ≤ place = so_far.few in
        let inside : place < length before = omega arith in
        let new = so_far.marks number known ∙ ne_eqb (get_or seen number 0) stamp fresh in
        record {
          few = omega arith;
          front = take_more_set numbers kept number (omega arith) ∙ ap (λ xs. xs ++ number ∷ []) so_far.front
              ∙ sym (distinct-more before place inside ∙ rw (same, new) refl);
          back = λ k after. let other : k ≢ kept = omega arith in rw get_or-set_other (so_far.back k (omega arith));
          stamped = All-set (λ earlier. earlier ≤ stamp) seen number stamp (le_refl stamp) so_far.stamped;
          marks = search (rules, marks_more, same, get_or-set_at, get_or-set_other);
        }

    -- a number that occurred at an earlier position is dropped
    pub leave : get_or seen number 0 ≡ stamp → IsKept before numbers seen stamp (place + 1) kept
    leave stood =
        let few : kept ≤ place = so_far.few in
        let inside : place < length before = omega arith in
        let old = so_far.marks number known ∙ eq-eqb (get_or seen number 0) stamp stood in
        record {
          few = omega arith;
          front = so_far.front ∙ sym (distinct-more before place inside ∙ rw (same, old) refl);
          back = λ k after. so_far.back k (omega arith);
          stamped = so_far.stamped;
          marks = search (rules, marks_more, same);
        }

-- the vertices less than `number` have no repeated successors any more, the other vertices are unchanged, and no stamp
-- in `seen` is greater than `number`
pub record IsDropped (before vertices : ParityGame) (seen : List ℕ) (number : ℕ) : Type 0 where
  pub done : (v : ℕ) → v < number → get_or vertices v no_vertex ≡ vertex_without_repeats (get_or before v no_vertex)
  pub left : (v : ℕ) → number ≤ v → get_or vertices v no_vertex ≡ get_or before v no_vertex
  pub places : length seen ≡ length before
  pub stamps : All (λ stamp. stamp < number + 1) seen

-- once all vertices are visited, all repeated successors are dropped
pub all_dropped : {before vertices : ParityGame} {seen : List ℕ} {number : ℕ} → IsDropped before vertices seen number →
    length vertices ≡ length before → length before ≤ number → vertices ≡ without_repeats before
all_dropped {before = before} {vertices = vertices} dropped same_length whole = ext_get_or no_vertex vertices
    (without_repeats before) (search (rules, length-map)) (λ v within. search (rules, get_or-map, dropped.done))
