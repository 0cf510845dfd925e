-- Writing the counts for one priority into the table of counts, one vertex after another.
use Rattle.std.proofs.Common.{◌≡◌, ◌≢◌, ℕ, zero, suc, ◌+◌, ◌<◌, ◌≤◌, ◌∙◌, List, length, max, inl, inr, nat_lt}
use Rattle.std.proofs.Common.{ap, arith, refl, sym, Some, rules}
use Rattle.std.specs.Prelude.{slice_get}
use Rattle.std.proofs.Math.Nat.{max-zero}
use Rattle.std.proofs.lemmas.Bool.{cases_eq, cases_lt}
use Rattle.std.proofs.lemmas.Option.{slice_get_within, slice_get_past}
use Rattle.ps_components.specs.Graphs.{Digraph}
use Rattle.ps_components.specs.ComponentLists.{ComponentsData, AreComponents}
use Rattle.ps_measure.specs.Inner.Columns.{value_of}
use Rattle.ps_measure.specs.Ranks.{count_of, width_of}
use Rattle.ps_measure.specs.Sums.{sum_below, counted}
use Rattle.ps_measure.specs.Tables.{HasPut, HasColumn}
use Rattle.ps_measure.proofs.RaisedCounts.Summing.{sum_below-same, positive_none, positive_some, raised_below}
use Rattle.ps_measure.proofs.RaisedCounts.Summing.{raised_none}

-- if one term grows from 0 to 1 and the others do not change, the sum grows by 1
one_more : (f g : ℕ → ℕ) (n u : ℕ) → u < n → f u ≡ 0 → g u ≡ 1 → ((v : ℕ) → v ≢ u → g v ≡ f v) →
    sum_below g n ≡ sum_below f n + 1
one_more f g zero u below none one others = absurd (omega arith)
one_more f g (suc n) u below none one others = elim (cases_eq u n) [
  | inl same ↦ search (rules, sum_below-same)
  | inr apart ↦ grind (arith, one_more f g n u (omega (arith, below, apart)) none one others)
]

-- the vertex v is at index j of a list
abbrev pub IsListed : List ℕ → ℕ → ℕ → Type 0
IsListed order j v = slice_get order j ≡ Some v

-- the counts of the first `i` vertices were written into the table; `nth` relates each index to the vertex whose counts
-- are written there
pub record ArePut (nth : ℕ → ℕ → Type 0) (counts : ℕ → ℕ) (old now : List (List ℕ)) (place i raised : ℕ) : Type 0
  where
    pub each : length now ≡ length old
    pub wide : (v : ℕ) → width_of now v ≡ width_of old v
    pub others : (v k : ℕ) → (k ≡ place → ⊥) → count_of now v k ≡ count_of old v k
    pub done : (j v : ℕ) → j < i → nth j v → count_of now v place ≡ counts v
    pub rest : (v : ℕ) → ((j : ℕ) → j < i → nth j v → ⊥) → count_of now v place ≡ 0
    pub few : raised ≤ i
    pub raised_is : raised ≡ raised_below (λ v. count_of now v place) (length old)

pub put_none : {nth : ℕ → ℕ → Type 0} {counts : ℕ → ℕ} {old : List (List ℕ)} {place : ℕ} →
    ((v : ℕ) → count_of old v place ≡ 0) → ArePut nth counts old old place 0 0
put_none {old = old} {place} none = search (rules, raised_none)

module _ {nth : ℕ → ℕ → Type 0} {counts : ℕ → ℕ} {old now : List (List ℕ)} {place i raised u : ℕ}
    (so_far : ArePut nth counts old now place i raised) (at : nth i u) (only : (v : ℕ) → nth i v → v ≡ u)
    (once : (j v : ℕ) → nth j v → nth i v → j ≡ i) where
  -- the vertex occurs at one index only, so its count was not written before
  fresh : count_of now u place ≡ 0
  fresh = so_far.rest u (λ j less there. (let e : j ≡ i = once j u there at in omega (arith, e, less)))

  -- the vertex has no nonzero counts from index `place` on
  pub none_later : ((v k : ℕ) → place ≤ k → count_of old v k ≡ 0) → (k : ℕ) → place ≤ k → count_of now u k ≡ 0
  none_later none k late = elim (cases_eq k place) [
    | inl same ↦ ap (count_of now u) same ∙ fresh
    | inr other ↦ so_far.others u k other ∙ none u k late
  ]

  -- a count that is 0 need not be written, since the table has zeros
  pub put_skip : counts u ≡ 0 → ArePut nth counts old now place (i + 1) raised
  put_skip none = search (rules, cases_eq, fresh)

  -- if the count of the next vertex is not 0, writing it into the table adds one to the number of nonzero counts
  pub put_one : {new : List (List ℕ)} → u < length old → 0 < counts u → HasPut now new u place (counts u) →
      ArePut nth counts old new place (i + 1) (raised + 1)
  put_one {new} below some put = record {
    each = put.each ∙ so_far.each;
    wide = λ v. put.wide v ∙ so_far.wide v;
    others = λ v k other. put.others v k (λ _ e. other e) ∙ so_far.others v k other;
    done = search (rules, cases_eq);
    rest = search rules;
    few = omega (arith, so_far.few);
    raised_is =
        let more = one_more (λ v. counted (nat_lt 0 (count_of now v place)))
        (λ v. counted (nat_lt 0 (count_of new v place))) (length old) u below (positive_none _ fresh)
        (positive_some _ (omega (arith, here, some))) (λ v apart. ap (λ n. counted (nat_lt 0 n)) (old_stays v apart)) in
        omega (arith, more, so_far.raised_is);
  }
    where
      here : count_of new u place ≡ counts u
      here = put.here ∙ ap (max (counts u)) fresh ∙ max-zero (counts u)

      old_stays : (v : ℕ) → v ≢ u → count_of new v place ≡ count_of now v place
      old_stays v apart = put.others v place (λ e _. apart e)

-- ## All vertices that were reached

module _ {g : Digraph} {c : ComponentsData} (components : AreComponents g c) where
  pub item_within : (i v : ℕ) → slice_get c.order i ≡ Some v → v < length c.numbers
  item_within i v at = (let number = components.ordered i v at in slice_get_within c.numbers v (Some number.0) number.1)

  -- a vertex that the search did not reach has the value 0
  no_value : (values : List ℕ) (v : ℕ) → ((j : ℕ) → slice_get c.order j ≡ Some v → ⊥) → value_of c values v ≡ 0
  no_value values v nowhere = search rules

  pub put_all : (values : List ℕ) {old new : List (List ℕ)} {place i raised : ℕ} → length c.order ≤ i →
      ArePut (IsListed c.order) (value_of c values) old new place i raised →
      HasColumn old new place (value_of c values) × (raised ≡ raised_below (value_of c values) (length old))
  put_all values {old} {new} {place} end put = grind (arith, here)
    where
      here : (v : ℕ) → count_of new v place ≡ value_of c values v
      here v = search (rules, no_value, slice_get_within)

-- ## All vertices in turn

abbrev pub IsSame : ℕ → ℕ → Type 0
IsSame j v = j ≡ v

-- a number that is not a vertex has the value 0
no_value_past : (c : ComponentsData) (values : List ℕ) (v : ℕ) → length c.numbers ≤ v → value_of c values v ≡ 0
no_value_past c values v past = search (rules, slice_get_past)

pub put_each : (c : ComponentsData) (values : List ℕ) {old new : List (List ℕ)} {place i raised : ℕ} →
    length c.numbers ≤ i → ArePut IsSame (value_of c values) old new place i raised →
    HasColumn old new place (value_of c values) × (raised ≡ raised_below (value_of c values) (length old))
put_each c values {old} {new} {place} {i} end put = grind (arith, here)
  where
    here : (v : ℕ) → count_of new v place ≡ value_of c values v
    here v = elim (cases_lt v i) [
      | inl below ↦ put.done v v below refl
      | inr above ↦ put.rest v (λ j less same. omega (arith, above, less, same))
          ∙ sym (no_value_past c values v (omega (arith, end, above)))
    ]
