-- A fair run has a round on which each until is somewhere not postponed.
use Rattle.std.proofs.Common.{◌≡◌, ◌≢◌, ℕ, suc, zero, ◌+◌, ◌-◌, ◌<◌, ◌≤◌, ◌⊎◌, inl, inr, List, [], ◌∷◌, ◌++◌, Bool}
use Rattle.std.proofs.Common.{true, false, ◌==◌}
use Rattle.std.proofs.Common.{refl, arith, rules, length, get_or, subst, sym, ap, ◌∙◌, length-append}
use Rattle.std.specs.List.{All, AllPairs, Contains, list_any}
use Rattle.std.proofs.lemmas.Bool.{cases_lt, eqb-true, eq-eqb}
use Rattle.std.proofs.lemmas.Bool.Decides.{Decides-eqb}
use Rattle.std.proofs.lemmas.List.Folds.{Any-from_list_any, list_any-from_Any}
use Rattle.std.proofs.lemmas.List.Kept.{AllPairs-cons}
use Rattle.std.proofs.lemmas.List.{get_or_default, get_or_append_left}
use Rattle.std.proofs.lemmas.Map.Made.{IsDistinct-from_AllPairs}
use Rattle.std.proofs.lemmas.Map.Steps.{length-le_from_distinct_below}
use Rattle.std.proofs.Math.Seq.{get_or-append_seam}
use Rattle.ps_formula.specs.NormalForms.{NormalFormula}
use Rattle.ps_tableau.specs.Covers.{Cover}
use Rattle.ps_tableau.specs.Runs.{HasRound, IsFair}
use Rattle.ps_tableau.proofs.Members.{first_in, in_more, in_none, later_in}

-- ## Two equal values

-- the entries at two indices are equal
record AreTwins (xs : List ℕ) (i j : ℕ) : Type 0 where
  rises : i < j
  within : j < length xs
  same : get_or xs i 0 ≡ get_or xs j 0

-- two entries of a list are equal
abbrev HasTwins : List ℕ → Type 0
HasTwins xs = (i : ℕ) × (j : ℕ) × AreTwins xs i j

-- if the values of a list's tail differ, either those of the whole list differ, or two of them are equal
head_differs : (x : ℕ) (xs : List ℕ) → AllPairs (λ x y. x ≢ y) xs → (b : Bool) → list_any (λ y. x == y) xs ≡ b →
    AllPairs (λ x y. x ≢ y) (x ∷ xs) ⊎ HasTwins (x ∷ xs)
head_differs x xs differ true there =
    let found = Any-from_list_any (λ y. x == y) xs there in
    inr (
      0,
      suc found.0,
      grind (arith, eqb-true, get_or_default),
    )
head_differs x xs differ false none = search (rules, AllPairs-cons, list_any-from_Any, get_or_default, eq-eqb)

differ_or_twins : (xs : List ℕ) → AllPairs (λ x y. x ≢ y) xs ⊎ HasTwins xs
differ_or_twins [] = inl (λ i j d rises within. absurd (omega arith))
differ_or_twins (x ∷ xs) = elim (differ_or_twins xs) [
  | inr repeated ↦ inr (
    suc repeated.0,
    suc repeated.1,
    grind arith,
  )
  | inl differ ↦ head_differs x xs differ (list_any (λ y. x == y) xs) refl
]

below_from_there : (n : ℕ) (xs : List ℕ) → All (λ x. x < n) xs → (q : ℕ) → list_any (λ y. q == y) xs ≡ true → q < n
below_from_there n xs below q there = search (rules, Any-from_list_any, eqb-true)

-- a list of more than n numbers less than n has two equal entries
twins : (n : ℕ) (xs : List ℕ) → All (λ x. x < n) xs → n < length xs → HasTwins xs
twins n xs below many = elim (differ_or_twins xs) [
  | inr repeated ↦ repeated
  | inl differ ↦ grind (
    arith,
    length-le_from_distinct_below xs n (IsDistinct-from_AllPairs Decides-eqb xs differ) (below_from_there n xs below),
  )
]

-- the values of a function at the first indices
values_of : (ℕ → ℕ) → ℕ → List ℕ
values_of f zero = []
values_of f (suc n) = values_of f n ++ f n ∷ []

length-values_of : (f : ℕ → ℕ) (n : ℕ) → length (values_of f n) ≡ n
unfolding values_of
length-values_of f zero = refl
length-values_of f (suc n) =
    let e = length-values_of f n in
    let l = length-append (values_of f n) (f n ∷ []) in omega arith

value_at : (f : ℕ → ℕ) (n k : ℕ) (d : ℕ) → k < n → get_or (values_of f n) k d ≡ f k
unfolding values_of
value_at f zero k d low = absurd (omega arith)
value_at f (suc n) k d low =
    let long = length-values_of f n in
    elim (cases_lt k n) [
      | inl before ↦ get_or_append_left (values_of f n) (f n ∷ []) d k (omega arith) ∙ value_at f n k d before
      | inr behind ↦
          let same : k ≡ length (values_of f n) = omega arith in
          let there : k ≡ n = omega arith in
          ap (λ (i : ℕ). get_or (values_of f n ++ f n ∷ []) i d) same ∙ get_or-append_seam (values_of f n) (f n) [] d
          ∙ ap f (sym there)
    ]

-- a function with values less than n has equal values at two indices
pigeons : (f : ℕ → ℕ) (n : ℕ) → ((k : ℕ) → f k < n) → (i : ℕ) × (j : ℕ) × (i < j) × (f i ≡ f j)
pigeons f n below =
    let long = length-values_of f (suc n) in
    let each : All (λ x. x < n) (values_of f (suc n)) =
    λ k d within. subst (λ (x : ℕ). x < n) (sym (value_at f (suc n) k d (omega arith))) (below k) in
    let pair = twins n (values_of f (suc n)) each (omega arith) in
    let low = pair.2.rises in
    let high = pair.2.within in
    let e = value_at f (suc n) pair.0 0 (omega arith) in
    let g = value_at f (suc n) pair.1 0 (omega arith) in
    (pair.0, pair.1, low, sym e ∙ pair.2.same ∙ g)

-- ## Rounds

-- a later index before which each until is somewhere not postponed, from an index on
record Span (untils : List NormalFormula) (run : ℕ → Cover) (start : ℕ) : Type 0 where
  end : ℕ
  later : start < end
  each : (f : NormalFormula) → Contains untils f → (j : ℕ) × (start ≤ j) × (j < end) × ¬ Contains (run j).postponed f

span : (untils : List NormalFormula) (run : ℕ → Cover) →
    ((f : NormalFormula) → Contains untils f → (i : ℕ) → (j : ℕ) × (i ≤ j) × ¬ Contains (run j).postponed f) →
    (start : ℕ) → Span untils run start
span [] run often start = record { end = start + 1; later = omega arith; each = λ f there. in_none f there }
span (u ∷ us) run often start =
    let rest = span us run (λ f there i. often f (later_in u us f there) i) start in
    let free = often u (first_in u us) start in
    record {
      end = rest.end + free.0 + 1;
      later = let h = rest.later in omega arith;
      each = λ f there. elim (in_more u us f there) [
        | inl e ↦ (
          free.0,
          free.1,
          omega arith,
          subst (λ (g : NormalFormula). ¬ Contains (run free.0).postponed g) e free.2,
        )
        | inr h ↦ let r = rest.each f h in (r.0, r.1, (let high = r.2 in omega arith), r.3)
      ];
    }

-- the start of each span, where one span follows another
abbrev start_of : ((i : ℕ) → (j : ℕ) × (i < j)) → ℕ → ℕ
start_of next zero = 0
start_of next (suc k) = (next (start_of next k)).0

rises : (next : (i : ℕ) → (j : ℕ) × (i < j)) (d k : ℕ) → start_of next k ≤ start_of next (k + d)
rises next zero k = let e : k ≡ k + 0 = omega arith in
    subst (λ (m : ℕ). start_of next k ≤ start_of next m) e (omega arith)
rises next (suc d) k =
    let e : suc (k + d) ≡ k + suc d = omega arith in
    let more = (next (start_of next (k + d))).1 in
    let before = rises next d k in
    subst (λ (m : ℕ). start_of next k ≤ start_of next m) e (omega arith)

pub fair_run_has_round_lem : (untils : List NormalFormula) (run : ℕ → Cover) (values : ℕ → ℕ) (count : ℕ) →
    IsFair untils run → ((i : ℕ) → values i < count) → HasRound untils run values
fair_run_has_round_lem untils run values count fair below =
    let spans : (i : ℕ) → Span untils run i = span untils run fair.often in
    let next : (i : ℕ) → (j : ℕ) × (i < j) = λ i. ((spans i).end, (spans i).later) in
    let at : ℕ → ℕ = start_of next in
    let pair = pigeons (λ k. values (at k)) count (λ k. below (at k)) in
    let rises_too = pair.2 in
    let first = spans (at pair.0) in
    let e : suc pair.0 + (pair.1 - suc pair.0) ≡ pair.1 = omega arith in
    let far : first.end ≤ at pair.1 =
    subst (λ (m : ℕ). first.end ≤ at m) e (rises next (pair.1 - suc pair.0) (suc pair.0)) in
    record {
      start = at pair.0;
      end = at pair.1;
      later = let h = first.later in omega arith;
      same = pair.3;
      each = λ f there. let free = first.each f there in (free.0, free.1, (let high = free.2 in omega arith), free.3);
    }
