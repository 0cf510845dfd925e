-- Keys are listed by adding the targets of one state after another.
-- - `adds_none`, `adds_known`, `adds_one`: what was added after each target
use Rattle.std.specs.Prelude.{◌≡◌, ◌≢◌, ◌⊎◌, ℕ, ◌<◌, List, [], ◌∷◌, ◌++◌, length}
use Rattle.std.specs.List.{AllPairs, Contains}
use Rattle.std.proofs.Common.{sym, ◌∙◌, subst, inl, inr, arith, get_or}
use Rattle.std.proofs.lemmas.List.Elements.{Contains-append_cases, Contains-append_left, Contains-push}
use Rattle.std.proofs.lemmas.List.Elements.{Contains-push_cases}
use Rattle.std.proofs.lemmas.Option.{slice_get-get_or, slice_get_within}
use Rattle.ps_diagram.proofs.ClassesOfLetters.Distinct.{at_last}
use Rattle.ps_machine.specs.Numbering.{StandsAt}
use Rattle.ps_machine.specs.declared.key.Key.{Key}
use Rattle.ps_basis.specs.Listing.{AddsNew}
use Rattle.ps_basis.proofs.ArenaKeys.{index_once, stands_in}

empty_has : (key : Key) → Contains [] key → ⊥
empty_has key (k, within, same) = omega (arith, within)

pub adds_none : (keys : List Key) → AddsNew keys [] []
adds_none keys = record {
  each = λ key here. absurd (empty_has key here);
  whole = λ key here. absurd (empty_has key here);
  different = λ i j d less within. absurd (omega (arith, within));
  rising = λ i j k l x y less at there from to. absurd (omega (arith, slice_get_within [] i x at));
}

module _ (keys targets more : List Key) (key : Key) (adds : AddsNew keys targets more)
    (fresh : ¬ Contains targets key) where
  abbrev longer : List Key
  longer = targets ++ key ∷ []

  -- an added key is not the last target
  other_than : (i : ℕ) (x : Key) → StandsAt more i x → x ≡ key → ⊥
  other_than i x at same =
      fresh (subst (λ (k : Key). Contains targets k) same (adds.each x (stands_in more i x at)).0)

  old_index : (k : ℕ) (x : Key) → (x ≡ key → ⊥) → StandsAt longer k x → StandsAt targets k x
  old_index k x differ at = elim (at_last targets key k at) [
    | inl old ↦ old
    | inr last ↦ absurd (differ last.0)
  ]

  -- ## The key is known

  module _ (known : Contains (keys ++ more) key) where
    whole_known : (x : Key) → Contains longer x → Contains keys x ⊎ Contains more x
    whole_known x here = elim (Contains-push_cases targets key x here) [
      | inl old ↦ adds.whole x old
      | inr same ↦ subst (λ (k : Key). Contains keys k ⊎ Contains more k) same
          (Contains-append_cases keys more key known)
    ]

    pub adds_known : AddsNew keys longer more
    adds_known = record {
      each = λ x here. (let (from, absent) = adds.each x here in
          (Contains-append_left targets (key ∷ []) x from, absent));
      whole = whole_known;
      different = adds.different;
      rising = λ i j k l x y less at there from to.
          adds.rising i j k l x y less at there (old_index k x (other_than i x at) from)
          (old_index l y (other_than j y there) to);
    }

  -- ## The key is new

  module _ (new : ¬ Contains (keys ++ more) key) where
    abbrev now : List Key
    now = more ++ key ∷ []

    whole_new : (x : Key) → Contains longer x → Contains keys x ⊎ Contains now x
    whole_new x here = elim (Contains-push_cases targets key x here) [
      | inl old ↦ elim (adds.whole x old) [
        | inl one ↦ inl one
        | inr added ↦ inr (Contains-append_left more (key ∷ []) x added)
      ]
      | inr same ↦ inr (subst (λ (k : Key). Contains now k) same (Contains-push more key))
    ]

    each_new : (x : Key) → Contains now x → Contains longer x × ¬ Contains keys x
    each_new x here = elim (Contains-push_cases more key x here) [
      | inl old ↦
          let (from, absent) = adds.each x old in (Contains-append_left targets (key ∷ []) x from, absent)
      | inr same ↦ subst (λ (k : Key). Contains longer k × ¬ Contains keys k) same
          (Contains-push targets key, λ had. new (Contains-append_left keys more key had))
    ]

    two_indices : (i j : ℕ) (x y : Key) → i < j →
        StandsAt more i x ⊎ ((x ≡ key) × (i ≡ length more)) → StandsAt more j y ⊎ ((y ≡ key) × (j ≡ length more)) →
        x ≡ y → ⊥
    two_indices i j x y less (inl at) (inl there) same =
        let is : i ≡ j = index_once more x i j adds.different at
        (subst (λ (k : Key). StandsAt more j k) (sym same) there) in
        omega (arith, less, is)
    two_indices i j x y less (inl at) (inr last) same = other_than i x at (same ∙ last.0)
    two_indices i j x y less (inr last) (inl there) same =
        let e = last.1 in omega (arith, less, e, slice_get_within more j y there)
    two_indices i j x y less (inr last) (inr also) same =
        let e = last.1 in let f = also.1 in omega (arith, less, e, f)

    different_new : AllPairs (λ x y. x ≢ y) now
    different_new i j d less within =
        two_indices i j (get_or now i d) (get_or now j d) less
        (at_last more key i (slice_get-get_or now i d (omega (arith, less, within))))
        (at_last more key j (slice_get-get_or now j d within))

    rising_new : (i j k l : ℕ) (x y : Key) → i < j →
        StandsAt more i x ⊎ ((x ≡ key) × (i ≡ length more)) → StandsAt more j y ⊎ ((y ≡ key) × (j ≡ length more)) →
        StandsAt longer k x → StandsAt longer l y → k < l
    rising_new i j k l x y less (inl at) (inl there) from to =
        adds.rising i j k l x y less at there (old_index k x (other_than i x at) from)
        (old_index l y (other_than j y there) to)
    rising_new i j k l x y less (inl at) (inr last) from to = with_last (at_last targets key l to)
      where
        before : k < length targets
        before = slice_get_within targets k x (old_index k x (other_than i x at) from)

        with_last : StandsAt targets l y ⊎ ((y ≡ key) × (l ≡ length targets)) → k < l
        with_last (inl old) =
            absurd (fresh (subst (λ (m : Key). Contains targets m) last.0 (stands_in targets l y old)))
        with_last (inr end) = let e = end.1 in omega (arith, before, e)
    rising_new i j k l x y less (inr last) (inl there) from to =
        let e = last.1 in absurd (omega (arith, less, e, slice_get_within more j y there))
    rising_new i j k l x y less (inr last) (inr also) from to =
        let e = last.1 in let f = also.1 in absurd (omega (arith, less, e, f))

    pub adds_one : AddsNew keys longer now
    adds_one = record {
      each = each_new;
      whole = whole_new;
      different = different_new;
      rising = λ i j k l x y less at there from to.
          rising_new i j k l x y less (at_last more key i at) (at_last more key j there) from to;
    }
