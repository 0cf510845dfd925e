-- If each gate of a list comes after the gates that it reads, no gate depends on itself.
use Rattle.std.proofs.Common.{◌≡◌, ◌∙◌, ℕ, ◌<◌, ap, sym, arith, Some, slice_get}
use Rattle.std.specs.List.{range_with_len}
use Rattle.std.proofs.lemmas.List.FromFn.{get_or-range_with_len, length-range_with_len}
use Rattle.std.proofs.lemmas.Option.{slice_get_within, slice_get-get_or, get_or_from_slice_get}
use Rattle.ps_components.specs.Graphs.{Way, last, next}
use Rattle.ps_components.specs.Orders.{IsOrder}

module _ (R : ℕ → ℕ → Type 0) (n : ℕ) (falls : (i j : ℕ) → R i j → j < i) (within : (i j : ℕ) → R i j → i < n) where
  way-falls : {i j : ℕ} → Way R i j → j < i
  way-falls {i} {j} (last r) = falls i j r
  way-falls {i} {j} (next {j = x} r w) = omega (arith, falls i x r, way-falls w)

  pub acyclic : (i : ℕ) → Way R i i → ⊥
  acyclic i w = omega (arith, way-falls w)

  here : (k i : ℕ) → slice_get (range_with_len 0 n) k ≡ Some i → (k ≡ i) × (k < n)
  here k i h =
      let lt : k < n = omega (arith, slice_get_within (range_with_len 0 n) k i h, length-range_with_len 0 n) in
      (omega (arith, get_or-range_with_len 0 n k 0 lt, get_or_from_slice_get (range_with_len 0 n) k i 0 h), lt)

  there : (i : ℕ) → i < n → slice_get (range_with_len 0 n) i ≡ Some i
  there i lt = slice_get-get_or (range_with_len 0 n) i 0 (omega (arith, length-range_with_len 0 n))
      ∙ ap Some (omega (arith, get_or-range_with_len 0 n i 0 lt))

  -- the indices less than n, in ascending order, are an order in which each gate comes after the gates that it reads
  pub order-of_numbers : IsOrder R n (range_with_len 0 n)
  order-of_numbers = record {
    within = λ k i h. omega (arith, here k i h);
    once = λ k l i hk hl. (here k i hk).0 ∙ sym (here l i hl).0;
    each = λ i lt. (i, there i lt);
    behind = λ k l i j hk hl r. omega (arith, here k i hk, here l j hl, falls i j r);
  }
