-- A list of the first player's keys that was made by visiting them one after another is in the order of the game.
-- - `AfterVisits board n keys`: what holds after the first n keys were visited
-- - `listed_first`, `listed_more`, `listed_on`: it holds at the beginning, and after each further key
-- - `listed_in_order`: the law
use Rattle.std.specs.Prelude.{◌≡◌, ◌≢◌, ℕ, zero, suc, ◌+◌, ◌<◌, ◌≤◌, ◌⊎◌, List, [], ◌∷◌, ◌++◌, length}
use Rattle.std.specs.List.{AllPairs, Contains}
use Rattle.std.proofs.Common.{sym, ◌∙◌, subst, refl, inl, inr, arith, get_or}
use Rattle.std.proofs.lemmas.Bool.{cases_eq}
use Rattle.std.proofs.lemmas.List.{length-append}
use Rattle.std.proofs.lemmas.List.Elements.{Contains-append_left, Contains-append_right}
use Rattle.std.proofs.lemmas.Option.{slice_get-get_or, slice_get_within}
use Rattle.ps_diagram.specs.Letters.{IsBefore}
use Rattle.ps_diagram.proofs.ClassesOfLetters.Distinct.{at_left}
use Rattle.ps_machine.specs.Boards.{Board}
use Rattle.ps_machine.specs.Numbering.{StandsAt}
use Rattle.ps_machine.specs.declared.key.Key.{Key}
use Rattle.ps_machine.specs.declared.key.Key.TheVariants.{First}
use Rattle.ps_machine.proofs.AutomatonGames.DecidedMoves.{same_priorities, same_states}
use Rattle.ps_machine.proofs.AutomatonGames.GameKeys.Standing.{one_state}
use Rattle.ps_basis.specs.Listing.{AddsNew, AreTargets, IsSooner, IsListedUpTo, begun, visited, passed}
use Rattle.ps_basis.specs.PairOrder.{HasStepTo, IsLeastStep, IsMadeAt, IsEarlier, IsMadeBelow, IsInOrder}
use Rattle.ps_basis.proofs.ArenaKeys.{index_once, stands_in, stands_there}
use Rattle.ps_basis.proofs.ClassKeys.{least_leads}
use Rattle.ps_basis.proofs.GameSteps.{least_step}
use Rattle.ps_basis.proofs.LeastSteps.{one_first, one_second}

-- ## Two lists behind each other

record InFront (xs : List Key) (j : ℕ) (x : Key) : Type 0 where
  within : j < length xs
  at : StandsAt xs j x

record InRest (xs ys : List Key) (j : ℕ) (x : Key) : Type 0 where
  place : ℕ
  index : j ≡ length xs + place
  at : StandsAt ys place x

in_part : (xs ys : List Key) (j : ℕ) (x : Key) → StandsAt (xs ++ ys) j x → InFront xs j x ⊎ InRest xs ys j x
in_part [] ys j x at = inr (record { place = j; index = omega arith; at = at })
in_part (y ∷ xs) ys zero x at = inl (record { within = omega arith; at = at })
in_part (y ∷ xs) ys (suc j) x at = elim (in_part xs ys j x at) [
  | inl front ↦ inl (let less = front.within in record { within = omega (arith, less); at = front.at })
  | inr rest ↦ inr (let same = rest.index in
      record { place = rest.place; index = omega (arith, same); at = rest.at })
]

pub front_at : (xs ys : List Key) (j : ℕ) (x : Key) → j < length xs → StandsAt (xs ++ ys) j x → StandsAt xs j x
front_at xs ys j x less at = elim (in_part xs ys j x at) [
  | inl front ↦ front.at
  | inr rest ↦ absurd (let same = rest.index in omega (arith, same, less))
]

-- ## What holds while keys are listed

record AfterVisits (board : Board) (n : ℕ) (keys : List Key) : Type 0 where
  long : n ≤ length keys
  begins : StandsAt keys 0 (First board.auto.start 0)
  different : AllPairs (λ x y. x ≢ y) keys
  closed : (i q p r s : ℕ) → i < n → StandsAt keys i (First q p) → HasStepTo board q r s → Contains keys (First r s)
  made : (j r s : ℕ) → 0 < j → StandsAt keys j (First r s) → IsMadeBelow board keys r s j
  by_visited : (j r s i x y : ℕ) → 0 < j → StandsAt keys j (First r s) → IsMadeAt board keys r s i x y → i < n
  rising : (j k r s t o : ℕ) → 0 < j → j < k → StandsAt keys j (First r s) → StandsAt keys k (First t o) →
      (i x y l z w : ℕ) → IsMadeAt board keys r s i x y → IsMadeAt board keys t o l z w → IsEarlier i x y l z w

one_key : (first : Key) (j : ℕ) (x : Key) → StandsAt (first ∷ []) j x → 0 < j → ⊥
one_key first j x at later =
    let less : j < length (first ∷ []) = slice_get_within (first ∷ []) j x at in omega (arith, less, later)

listed_first : (board : Board) → AfterVisits board 0 (First board.auto.start 0 ∷ [])
listed_first board = record {
  long = omega arith;
  begins = refl;
  different = λ i j d less within. absurd (omega (arith, less, within));
  closed = λ i q p r s less at leads. absurd (omega (arith, less));
  made = λ j r s later at. absurd (one_key (First board.auto.start 0) j (First r s) at later);
  by_visited = λ j r s i x y later at made. absurd (one_key (First board.auto.start 0) j (First r s) at later);
  rising = λ j k r s t o later less at also i x y l z w made other.
      absurd (one_key (First board.auto.start 0) j (First r s) at later);
}

-- ## A key whose state was visited before

module _ (board : Board) (n : ℕ) (keys : List Key) (listed : AfterVisits board n keys) (k q p o : ℕ) (less : k < n)
    (at : StandsAt keys n (First q p)) (before : StandsAt keys k (First q o)) where
  closed_on : (i r u t s : ℕ) → i < suc n → StandsAt keys i (First r u) → HasStepTo board r t s →
      Contains keys (First t s)
  closed_on i r u t s within there leads = elim (cases_eq i n) [
    | inl same ↦
        let state : r ≡ q = one_state keys n u p (subst (λ (j : ℕ). StandsAt keys j (First r u)) same there) at in
        listed.closed k q o t s less before (subst (λ (a : ℕ). HasStepTo board a t s) state leads)
    | inr differ ↦ listed.closed i r u t s (omega (arith, within, differ)) there leads
  ]

  listed_on : AfterVisits board (suc n) keys
  listed_on = record {
    long = omega (arith, slice_get_within keys n (First q p) at);
    begins = listed.begins;
    different = listed.different;
    closed = closed_on;
    made = listed.made;
    by_visited = λ j r s i x y later there made. (let below = listed.by_visited j r s i x y later there made in
        omega (arith, below));
    rising = listed.rising;
  }

-- ## A key whose state adds the keys to which it leads on

module _ (board : Board) (n : ℕ) (keys : List Key) (listed : AfterVisits board n keys) (q p : ℕ)
    (targets more : List Key)
    (at : StandsAt keys n (First q p)) (are : AreTargets board q targets) (adds : AddsNew keys targets more) where
  below : n < length keys
  below = slice_get_within keys n (First q p) at

  left : (j : ℕ) (x : Key) → StandsAt keys j x → StandsAt (keys ++ more) j x
  left j x there = at_left keys more j there

  at_now : StandsAt (keys ++ more) n (First q p)
  at_now = left n (First q p) at

  front : (j : ℕ) (x : Key) → j < length keys → StandsAt (keys ++ more) j x → StandsAt keys j x
  front j x less there = front_at keys more j x less there

  -- ## The conditions on keys

  apart : AllPairs (λ x y. x ≢ y) (keys ++ more)
  apart i j d less within same = with_parts
      (in_part keys more i (get_or (keys ++ more) i d)
      (slice_get-get_or (keys ++ more) i d (omega (arith, less, within))))
      (in_part keys more j (get_or (keys ++ more) i d)
      (subst (λ (x : Key). StandsAt (keys ++ more) j x) (sym same) (slice_get-get_or (keys ++ more) j d within)))
    where
      x : Key
      x = get_or (keys ++ more) i d

      with_parts : InFront keys i x ⊎ InRest keys more i x → InFront keys j x ⊎ InRest keys more j x → ⊥
      with_parts (inl one) (inl other) =
          let is : i ≡ j = index_once keys x i j listed.different one.at other.at in omega (arith, less, is)
      with_parts (inl one) (inr other) =
          (adds.each x (stands_in more other.place x other.at)).1 (stands_in keys i x one.at)
      with_parts (inr one) (inl other) =
          (adds.each x (stands_in more one.place x one.at)).1 (stands_in keys j x other.at)
      with_parts (inr one) (inr other) =
          let is : one.place ≡ other.place = index_once more x one.place other.place adds.different one.at other.at in
          let first : i ≡ length keys + one.place = one.index in
          let second : j ≡ length keys + other.place = other.index in
          omega (arith, less, is, first, second)

  contained : (r s : ℕ) → HasStepTo board q r s → Contains (keys ++ more) (First r s)
  contained r s leads = elim (adds.whole (First r s) (are.complete r s leads)) [
    | inl old ↦ Contains-append_left keys more (First r s) old
    | inr new ↦ Contains-append_right keys more (First r s) new
  ]

  closed_more : (i r u t s : ℕ) → i < suc n → StandsAt (keys ++ more) i (First r u) → HasStepTo board r t s →
      Contains (keys ++ more) (First t s)
  closed_more i r u t s within there leads = elim (cases_eq i n) [
    | inl same ↦
        let state : r ≡ q = one_state (keys ++ more) n u p
        (subst (λ (j : ℕ). StandsAt (keys ++ more) j (First r u)) same there) at_now in
        contained t s (subst (λ (a : ℕ). HasStepTo board a t s) state leads)
    | inr differ ↦
        let less : i < n = omega (arith, within, differ) in
        Contains-append_left keys more (First t s)
        (listed.closed i r u t s less (front i (First r u) (omega (arith, less, below)) there) leads)
  ]

  -- ## Where keys are made

  made_still : (r s i x y : ℕ) → IsMadeAt board keys r s i x y → IsMadeAt board (keys ++ more) r s i x y
  made_still r s i x y made = record {
    state = made.state;
    priority = made.priority;
    stands = left i (First made.state made.priority) made.stands;
    least = made.least;
    none_before = λ k o u less there leads.
        let inside : i < length keys = slice_get_within keys i (First made.state made.priority) made.stands in
        made.none_before k o u less (front k (First o u) (omega (arith, less, inside)) there) leads;
  }

  made_back : (r s i x y : ℕ) → i < length keys → IsMadeAt board (keys ++ more) r s i x y →
      IsMadeAt board keys r s i x y
  made_back r s i x y inside made = record {
    state = made.state;
    priority = made.priority;
    stands = front i (First made.state made.priority) inside made.stands;
    least = made.least;
    none_before = λ k o u less there leads. made.none_before k o u less (left k (First o u) there) leads;
  }

  -- an old key is made where it was made before
  old_made : (j r s i x y : ℕ) → 0 < j → StandsAt keys j (First r s) → IsMadeAt board (keys ++ more) r s i x y →
      (i < n) × IsMadeAt board keys r s i x y
  old_made j r s i x y later there made =
      let was : IsMadeBelow board keys r s j = listed.made j r s later there in
      let first : IsMadeAt board keys r s was.index was.x was.y = was.made in
      let visited : was.index < n = listed.by_visited j r s was.index was.x was.y later there first in
      let not_later : ¬ (was.index < i) = λ less. made.none_before was.index first.state first.priority less
      (left was.index (First first.state first.priority) first.stands)
      (least_leads board first.state r s was.x was.y first.least) in
      let less : i < n = omega (arith, visited, not_later) in
      (less, made_back r s i x y (omega (arith, less, below)) made)

  -- a new key is made at the key that is visited
  record NewKey (r s : ℕ) : Type 0 where
    leads : HasStepTo board q r s
    none_before : (k o u : ℕ) → k < n → StandsAt (keys ++ more) k (First o u) → ¬ HasStepTo board o r s

  new_key : (k r s : ℕ) → StandsAt more k (First r s) → NewKey r s
  new_key k r s there =
      let new : Contains targets (First r s) × ¬ Contains keys (First r s) =
      adds.each (First r s) (stands_in more k (First r s) there) in
      let (t, o, is_key, leads) = are.each (First r s) new.0 in
      record {
        leads = subst (λ (a : ℕ). HasStepTo board q a s) (sym (same_states is_key))
            (subst (λ (b : ℕ). HasStepTo board q t b) (sym (same_priorities is_key)) leads);
        none_before = λ l u v less was on. new.1 (listed.closed l u v r s less
            (front l (First u v) (omega (arith, less, below)) was) on);
      }

  new_made : (r s i x y : ℕ) → NewKey r s → IsMadeAt board (keys ++ more) r s i x y → i ≡ n
  new_made r s i x y new made =
      let not_less : ¬ (i < n) = λ less. new.none_before i made.state made.priority less made.stands
      (least_leads board made.state r s x y made.least) in
      let not_more : ¬ (n < i) = λ less. made.none_before n q p less at_now new.leads in
      omega (arith, not_less, not_more)

  made_new : (j r s : ℕ) → n < j → NewKey r s → IsMadeBelow board (keys ++ more) r s j
  made_new j r s less new =
      let (x, y, least) = least_step board q r s new.leads in
      record {
        index = n;
        x = x;
        y = y;
        below = less;
        made = record { state = q; priority = p; stands = at_now; least = least; none_before = new.none_before };
      }

  made_more : (j r s : ℕ) → 0 < j → StandsAt (keys ++ more) j (First r s) → IsMadeBelow board (keys ++ more) r s j
  made_more j r s later there = elim (in_part keys more j (First r s) there) [
    | inl old ↦
        let was : IsMadeBelow board keys r s j = listed.made j r s later old.at in
        record {
          index = was.index;
          x = was.x;
          y = was.y;
          below = was.below;
          made = made_still r s was.index was.x was.y was.made;
        }
    | inr new ↦
        let index : j ≡ length keys + new.place = new.index in
        made_new j r s (omega (arith, index, below)) (new_key new.place r s new.at)
  ]

  by_visited_more : (j r s i x y : ℕ) → 0 < j → StandsAt (keys ++ more) j (First r s) →
      IsMadeAt board (keys ++ more) r s i x y → i < suc n
  by_visited_more j r s i x y later there made = elim (in_part keys more j (First r s) there) [
    | inl old ↦ (let less : i < n = (old_made j r s i x y later old.at made).0 in omega (arith, less))
    | inr new ↦ (let same : i ≡ n = new_made r s i x y (new_key new.place r s new.at) made in omega (arith, same))
  ]

  -- ## The order

  least_at : (r s i x y : ℕ) → i ≡ n → IsMadeAt board (keys ++ more) r s i x y → IsLeastStep board q r s x y
  least_at r s i x y same made =
      let state : made.state ≡ q = one_state (keys ++ more) n made.priority p
      (subst (λ (j : ℕ). StandsAt (keys ++ more) j (First made.state made.priority)) same made.stands) at_now in
      subst (λ (a : ℕ). IsLeastStep board a r s x y) state made.least

  as_letters : (r s t o x y z w : ℕ) → IsSooner board q r s t o → IsLeastStep board q r s x y →
      IsLeastStep board q t o z w → IsBefore x z ⊎ ((x ≡ z) × IsBefore y w)
  as_letters r s t o x y z w sooner one other =
      let x_is : sooner.x ≡ x = one_first board q r s sooner.x sooner.y x y sooner.one one in
      let y_is : sooner.y ≡ y = one_second board q r s sooner.x sooner.y x y sooner.one one in
      let z_is : sooner.z ≡ z = one_first board q t o sooner.z sooner.w z w sooner.other other in
      let w_is : sooner.w ≡ w = one_second board q t o sooner.z sooner.w z w sooner.other other in
      elim sooner.order [
        | inl before ↦ inl (subst (λ (a : ℕ). IsBefore a z) x_is (subst (λ (b : ℕ). IsBefore sooner.x b) z_is before))
        | inr (same, before) ↦ inr (
          sym x_is ∙ same ∙ z_is,
          subst (λ (a : ℕ). IsBefore a w) y_is (subst (λ (b : ℕ). IsBefore sooner.y b) w_is before),
        )
      ]

  -- two new keys
  new_rise : (j k r s t o i x y l z w : ℕ) → j < k → StandsAt more j (First r s) → StandsAt more k (First t o) →
      IsMadeAt board (keys ++ more) r s i x y → IsMadeAt board (keys ++ more) t o l z w → IsEarlier i x y l z w
  new_rise j k r s t o i x y l z w less one other made also =
      let one_is : i ≡ n = new_made r s i x y (new_key j r s one) made in
      let other_is : l ≡ n = new_made t o l z w (new_key k t o other) also in
      let (u, first) = stands_there targets (First r s)
      ((adds.each (First r s) (stands_in more j (First r s) one)).0) in
      let (v, second) = stands_there targets (First t o)
      ((adds.each (First t o) (stands_in more k (First t o) other)).0) in
      let rises : u < v = adds.rising j k u v (First r s) (First t o) less one other first second in
      let sooner : IsSooner board q r s t o = are.rising u v r s t o rises first second in
      inr (
        one_is ∙ sym other_is,
        as_letters r s t o x y z w sooner (least_at r s i x y one_is made)
            (least_at t o l z w other_is also),
      )

  module _ (j k r s t o : ℕ) (later : 0 < j) (less : j < k) (i x y l z w : ℕ)
      (made : IsMadeAt board (keys ++ more) r s i x y) (also : IsMadeAt board (keys ++ more) t o l z w) where
    by_parts : InFront keys j (First r s) ⊎ InRest keys more j (First r s) →
        InFront keys k (First t o) ⊎ InRest keys more k (First t o) → IsEarlier i x y l z w
    by_parts (inl one) (inl other) = listed.rising j k r s t o later less one.at other.at i x y l z w
        (old_made j r s i x y later one.at made).1 (old_made k t o l z w (omega (arith, later, less)) other.at also).1
    by_parts (inl one) (inr other) =
        let before : i < n = (old_made j r s i x y later one.at made).0 in
        let is_new : l ≡ n = new_made t o l z w (new_key other.place t o other.at) also in
        inl (omega (arith, before, is_new))
    by_parts (inr one) (inl other) =
        let index : j ≡ length keys + one.place = one.index in
        let inside : k < length keys = other.within in
        absurd (omega (arith, less, index, inside))
    by_parts (inr one) (inr other) =
        let first : j ≡ length keys + one.place = one.index in
        let second : k ≡ length keys + other.place = other.index in
        new_rise one.place other.place r s t o i x y l z w (omega (arith, less, first, second)) one.at other.at made
        also

  listed_more : AfterVisits board (suc n) (keys ++ more)
  listed_more = record {
    long = omega (arith, below, length-append keys more);
    begins = left 0 (First board.auto.start 0) listed.begins;
    different = apart;
    closed = closed_more;
    made = made_more;
    by_visited = by_visited_more;
    rising = λ j k r s t o later less one other i x y l z w made also. by_parts j k r s t o later less i x y l z w made
        also (in_part keys more j (First r s) one) (in_part keys more k (First t o) other);
  }

listed_is : (board : Board) (n : ℕ) (keys : List Key) → IsListedUpTo board n keys → AfterVisits board n keys
listed_is board n keys begun = listed_first board
listed_is board n keys (visited {n = m} {keys = old} {q} {p} {targets} {more} before at are adds) =
    listed_more board m old (listed_is board m old before) q p targets more at are adds
listed_is board n keys (passed {n = m} {keys = old} {k} {q} {p} {o} before at less was) =
    listed_on board m old (listed_is board m old before) k q p o less at was

pub listed_in_order : (board : Board) (keys : List Key) → IsListedUpTo board (length keys) keys → IsInOrder board keys
listed_in_order board keys is = record {
  begins = listed.begins;
  different = listed.different;
  closed = λ i q p r s at leads. listed.closed i q p r s (slice_get_within keys i (First q p) at) at leads;
  made = listed.made;
  rising = listed.rising;
}
  where
    listed : AfterVisits board (length keys) keys
    listed = listed_is board (length keys) keys is
