-- Two ascending lists of propositions in one.
use Rattle.std.specs.Prelude.{◌≡◌, ℕ, zero, suc, ◌+◌, ◌<◌, ◌≤◌, ◌⊎◌, Bool, true, false, not, cond, List, [], ◌∷◌, ◌++◌}
use Rattle.std.specs.Prelude.{length, slice_index_or}
use Rattle.std.specs.List.{Contains}
use Rattle.std.proofs.Common.{refl, sym, ap, subst, ◌∙◌, inl, inr, arith, get_or}
use Rattle.std.proofs.lemmas.Bool.{cases_eq}
use Rattle.std.proofs.lemmas.List.{get_or_default, length-append}
use Rattle.std.proofs.lemmas.List.Elements.{All-push, Contains-append_left, Contains-push, Contains-get_or}
use Rattle.std.proofs.lemmas.List.Quantifiers.{all_pairs_push}
use Rattle.ps_mixing.specs.Inner.Merging.{AreMerged, CanMerge, IsEarlier, IsMergedOrder, owned_below}
use Rattle.ps_mixing.proofs.MovedPropositions.OwnedLists.{owned_from, owned_rise, owned_there}

pub merged_none : (is_own : ℕ → Bool) (others own : List ℕ) → AreMerged is_own others own 0 0 []
merged_none is_own others own = record {
  count = omega arith;
  whole_others = λ k d less. absurd (omega (arith, less));
  whole_own = λ k d less. absurd (omega (arith, less));
  each = λ k d within. absurd (omega (arith, within));
  order = λ i j d less within. absurd (omega (arith, within));
}

module _ (is_own : ℕ → Bool) (others own : List ℕ) (can : CanMerge is_own others own) (i j : ℕ) (from : List ℕ)
    (merged : AreMerged is_own others own i j from) where
  later : (list : List ℕ) (n p : ℕ) → IsEarlier list n p → IsEarlier list (n + 1) p
  later list n p (k, less, same) = (k, omega (arith, less), same)

  pub merged_other : i < length others → j ≤ length own → (x : ℕ) → slice_index_or others i x ≡ x →
      AreMerged is_own others own (i + 1) j (from ++ x ∷ [])
  merged_other within few x is = record {
    count = omega (arith, merged.count, length-append from (x ∷ []));
    whole_others = λ k d less. elim (cases_eq k i) [
      | inl same ↦ subst (λ (y : ℕ). Contains (from ++ x ∷ []) y) (sym (ap (λ (m : ℕ). slice_index_or others m d) same ∙
          get_or_default others i d x within ∙ is)) (Contains-push from x)
      | inr differ ↦ Contains-append_left from (x ∷ []) (slice_index_or others k d)
          (merged.whole_others k d (omega (arith, less, differ)))
    ];
    whole_own = λ k d less. Contains-append_left from (x ∷ []) (slice_index_or own k d) (merged.whole_own k d less);
    each = All-push (λ p. IsEarlier others (i + 1) p ⊎ IsEarlier own j p) from x (λ k d less.
        elim (merged.each k d less) [
          | inl one ↦ inl (later others i (get_or from k d) one)
          | inr another ↦ inr another
        ]) (inl (i, omega arith, λ d. get_or_default others i d x within ∙ is));
    order = all_pairs_push (λ p q. is_own p ≡ is_own q → p < q) from x merged.order (λ k d less same.
        rises (get_or from k d) (merged.each k d less) same);
  }
    where
      not_own : is_own x ≡ false
      not_own = ap is_own (sym is) ∙ can.not_own i x within

      rises : (p : ℕ) → IsEarlier others i p ⊎ IsEarlier own j p → is_own p ≡ is_own x → p < x
      rises p (inl (k, less, at)) same =
          let lt = can.others_rise k i x less within in omega (arith, lt, at x, is)
      rises p (inr (k, less, at)) same =
          let owned : is_own p ≡ true = ap is_own (sym (at 0)) ∙ can.are_own k 0 (omega (arith, less, few)) in
          absurd (cc (owned, same, not_own))

  pub merged_own : j < length own → i ≤ length others → (x : ℕ) → slice_index_or own j x ≡ x →
      AreMerged is_own others own i (j + 1) (from ++ x ∷ [])
  merged_own within few x is = record {
    count = omega (arith, merged.count, length-append from (x ∷ []));
    whole_others = λ k d less. Contains-append_left from (x ∷ []) (slice_index_or others k d)
        (merged.whole_others k d less);
    whole_own = λ k d less. elim (cases_eq k j) [
      | inl same ↦ subst (λ (y : ℕ). Contains (from ++ x ∷ []) y) (sym (ap (λ (m : ℕ). slice_index_or own m d) same ∙
          get_or_default own j d x within ∙ is)) (Contains-push from x)
      | inr differ ↦ Contains-append_left from (x ∷ []) (slice_index_or own k d)
          (merged.whole_own k d (omega (arith, less, differ)))
    ];
    each = All-push (λ p. IsEarlier others i p ⊎ IsEarlier own (j + 1) p) from x (λ k d less.
        elim (merged.each k d less) [
          | inl one ↦ inl one
          | inr another ↦ inr (later own j (get_or from k d) another)
        ]) (inr (j, omega arith, λ d. get_or_default own j d x within ∙ is));
    order = all_pairs_push (λ p q. is_own p ≡ is_own q → p < q) from x merged.order (λ k d less same.
        rises (get_or from k d) (merged.each k d less) same);
  }
    where
      owned : is_own x ≡ true
      owned = ap is_own (sym is) ∙ can.are_own j x within

      rises : (p : ℕ) → IsEarlier others i p ⊎ IsEarlier own j p → is_own p ≡ is_own x → p < x
      rises p (inr (k, less, at)) same =
          let lt = can.own_rise k j x less within in omega (arith, lt, at x, is)
      rises p (inl (k, less, at)) same =
          let other : is_own p ≡ false = ap is_own (sym (at 0)) ∙ can.not_own k 0 (omega (arith, less, few)) in
          absurd (cc (owned, same, other))

-- ## The whole list

module _ (n : ℕ) (is_own : ℕ → Bool) where
  abbrev others : List ℕ
  others = owned_below (λ p. not (is_own p)) n

  abbrev own : List ℕ
  own = owned_below is_own n

  not_true : (b : Bool) → not b ≡ true → b ≡ false
  not_true true same = absurd (cc same)
  not_true false same = refl

  pub can_merge : CanMerge is_own others own
  can_merge = record {
    others_rise = owned_rise (λ p. not (is_own p)) n;
    own_rise = owned_rise is_own n;
    not_own = λ k d within. not_true (is_own (get_or others k d))
        (owned_from (λ p. not (is_own p)) n (get_or others k d) (Contains-get_or others k d within)).1;
    are_own = λ k d within. (owned_from is_own n (get_or own k d) (Contains-get_or own k d within)).1;
  }

split_count : (is_own : ℕ → Bool) (n : ℕ) → length (others n is_own) + length (own n is_own) ≡ n
split_count is_own zero = omega arith
split_count is_own (suc n) = step (is_own n) (split_count is_own n)
  where
    step : (b : Bool) → length (others n is_own) + length (own n is_own) ≡ n →
        length (others n is_own ++ cond (not b) (n ∷ []) []) + length (own n is_own ++ cond b (n ∷ []) []) ≡ suc n
    step true before = omega (arith, before, length-append (others n is_own) [], length-append (own n is_own) (n ∷ []))
    step false before =
        omega (arith, before, length-append (others n is_own) (n ∷ []), length-append (own n is_own) [])

module _ (n : ℕ) (is_own : ℕ → Bool) (from : List ℕ) (merged : AreMerged is_own (others n is_own) (own n is_own)
    (length (others n is_own)) (length (own n is_own)) from) where
  bounded : (p : ℕ) → IsEarlier (others n is_own) (length (others n is_own)) p ⊎
      IsEarlier (own n is_own) (length (own n is_own)) p → p < n
  bounded p (inl (k, less, at)) = subst (λ (q : ℕ). q < n) (at 0) (owned_from (λ p. not (is_own p)) n
      (get_or (others n is_own) k 0) (Contains-get_or (others n is_own) k 0 less)).0
  bounded p (inr (k, less, at)) = subst (λ (q : ℕ). q < n) (at 0) (owned_from is_own n
      (get_or (own n is_own) k 0) (Contains-get_or (own n is_own) k 0 less)).0

  pub merged_order : IsMergedOrder n is_own from
  merged_order = record {
    count = merged.count ∙ split_count is_own n;
    below = λ k d within. bounded (get_or from k d) (merged.each k d within);
    whole = λ p less. by_owner p less (is_own p) refl;
    order = merged.order;
  }
    where
      by_owner : (p : ℕ) → p < n → (b : Bool) → is_own p ≡ b → Contains from p
      by_owner p less true is =
          let (k, within, at) = owned_there is_own n p less is in
          subst (λ (q : ℕ). Contains from q) at (merged.whole_own k p within)
      by_owner p less false is =
          let (k, within, at) = owned_there (λ q. not (is_own q)) n p less (ap not is) in
          subst (λ (q : ℕ). Contains from q) at (merged.whole_others k p within)

pub merged_by : (n : ℕ) (is_own : ℕ → Bool) (xs ys from : List ℕ) → xs ≡ others n is_own → ys ≡ own n is_own →
    (CanMerge is_own xs ys → AreMerged is_own xs ys (length xs) (length ys) from) → IsMergedOrder n is_own from
merged_by n is_own xs ys from one another by = merged_order n is_own from
    (subst (λ (l : List ℕ). AreMerged is_own l (own n is_own) (length l) (length (own n is_own)) from) one
    (subst (λ (l : List ℕ). AreMerged is_own xs l (length xs) (length l) from) another
    (by (subst (λ (l : List ℕ). CanMerge is_own l ys) (sym one)
    (subst (λ (l : List ℕ). CanMerge is_own (others n is_own) l) (sym another) (can_merge n is_own))))))

pub owned_few : (f : ℕ → Bool) (n : ℕ) → length (owned_below f n) ≤ n
owned_few f zero = omega arith
owned_few f (suc n) = step (f n) (owned_few f n)
  where
    step : (b : Bool) → length (owned_below f n) ≤ n → length (owned_below f n ++ cond b (n ∷ []) []) ≤ suc n
    step true before = omega (arith, before, length-append (owned_below f n) (n ∷ []))
    step false before = omega (arith, before, length-append (owned_below f n) [])

-- ## Steps of the loop

module _ (others own : List ℕ) (i j : ℕ) (from new : List ℕ)
    (merged : (is_own : ℕ → Bool) → CanMerge is_own others own → AreMerged is_own others own i j from) where
  pub other_next : i < length others → j ≤ length own → new ≡ from ++ get_or others i 0 ∷ [] →
      (is_own : ℕ → Bool) → CanMerge is_own others own → AreMerged is_own others own (i + 1) j new
  other_next within few is is_own can = subst (AreMerged is_own others own (i + 1) j) (sym is)
      (merged_other is_own others own can i j from (merged is_own can) within few (get_or others i 0)
      (get_or_default others i (get_or others i 0) 0 within))

  pub own_next : j < length own → i ≤ length others → new ≡ from ++ get_or own j 0 ∷ [] →
      (is_own : ℕ → Bool) → CanMerge is_own others own → AreMerged is_own others own i (j + 1) new
  own_next within few is is_own can = subst (AreMerged is_own others own i (j + 1)) (sym is)
      (merged_own is_own others own can i j from (merged is_own can) within few (get_or own j 0)
      (get_or_default own j (get_or own j 0) 0 within))
