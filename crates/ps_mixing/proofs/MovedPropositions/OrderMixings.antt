-- A merged order of the propositions, with the table of their places, is a mixing.
use Rattle.std.specs.Prelude.{◌≡◌, ℕ, ◌<◌, ◌≤◌, Bool, List, slice_index_or}
use Rattle.std.proofs.Common.{sym, ap, ◌∙◌, inl, inr, arith}
use Rattle.std.proofs.lemmas.Bool.{cases_eq, cases_lt}
use Rattle.std.proofs.lemmas.List.{get_or_default, get_or_past}
use Rattle.ps_mixing.specs.Mixings.{IsMixing}
use Rattle.ps_mixing.specs.Inner.Merging.{ArePlaces, IsMergedOrder}
use Rattle.ps_mixing.specs.Orders.{place_in}

module _ (n : ℕ) (is_own : ℕ → Bool) (from to : List ℕ) (merged : IsMergedOrder n is_own from)
    (are : ArePlaces from to) where
  from_past : (p : ℕ) → n ≤ p → place_in from p ≡ p
  from_past p le = get_or_past from p p (omega (arith, le, merged.count))

  to_past : (p : ℕ) → n ≤ p → place_in to p ≡ p
  to_past p le = get_or_past to p p (omega (arith, le, merged.count, are.count))

  forth : (p : ℕ) → place_in to (place_in from p) ≡ p
  forth p = elim (cases_lt p n) [
    | inl less ↦ are.places p p (place_in from p) (omega (arith, less, merged.count))
    | inr more ↦ ap (place_in to) (from_past p more) ∙ to_past p more
  ]

  -- the place of a proposition
  place_at : (p : ℕ) → p < n → (k : ℕ) × (k < n) × (place_in from k ≡ p) × (place_in to p ≡ k)
  place_at p less =
      let (k, within, same) = merged.whole p less in (
        k,
        omega (arith, within, merged.count),
        get_or_default from k k p within ∙ same,
        ap (λ (q : ℕ). slice_index_or to q p) (sym same) ∙ are.places k p p within,
      )

  back : (p : ℕ) → place_in from (place_in to p) ≡ p
  back p = elim (cases_lt p n) [
    | inl less ↦ (let (k, within, there, here) = place_at p less in ap (place_in from) here ∙ there)
    | inr more ↦ ap (place_in from) (to_past p more) ∙ from_past p more
  ]

  within : (p : ℕ) → p < n → place_in to p < n
  within p less = (let (k, lt, there, here) = place_at p less in omega (arith, lt, here))

  -- a proposition that stands before another of its player is less
  before : (p q : ℕ) → is_own p ≡ is_own q → place_in to p < place_in to q → place_in to q < n → p < q
  before p q same less inside =
      let rises = merged.order (place_in to p) (place_in to q) 0 less (omega (arith, inside, merged.count)) in
      let at : (r : ℕ) → place_in to r < n → slice_index_or from (place_in to r) 0 ≡ r = λ r lt.
      get_or_default from (place_in to r) 0 (place_in to r) (omega (arith, lt, merged.count)) ∙ back r in
      let one = at p (omega (arith, less, inside)) in
      let other = at q inside in
      let lt = rises (ap is_own one ∙ same ∙ sym (ap is_own other)) in
      omega (arith, lt, one, other)

  order : (p q : ℕ) → p < q → is_own p ≡ is_own q → place_in to p < place_in to q
  order p q less same = elim (cases_lt q n) [
    | inl inside ↦ elim (cases_lt (place_in to p) (place_in to q)) [
      | inl lt ↦ lt
      | inr more ↦ elim (cases_eq (place_in to q) (place_in to p)) [
        | inl equal ↦
            let index : q ≡ p = sym (back q) ∙ ap (place_in from) equal ∙ back p in
            absurd (omega (arith, index, less))
        | inr differ ↦
            let turned : q < p = before q p (sym same) (omega (arith, more, differ))
            (within p (omega (arith, less, inside))) in
            absurd (omega (arith, turned, less))
      ]
    ]
    | inr beyond ↦ elim (cases_lt p n) [
      | inl inside ↦ (let lt = within p inside in let still = to_past q beyond in omega (arith, lt, still, beyond))
      | inr also ↦ (let one = to_past p also in let other = to_past q beyond in omega (arith, one, other, less))
    ]
  ]

  pub order_is_mixing : IsMixing n is_own (record { to = place_in to; from = place_in from })
  order_is_mixing = record { back = back; forth = forth; beyond = to_past; order = order }
