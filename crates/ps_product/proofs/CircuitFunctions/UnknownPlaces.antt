-- Lemmas about the number of a circuit's variables that have not been evaluated yet, and about the rank of a variable
-- in the order of evaluation. A variable is given by its place (index).
use Rattle.std.proofs.Common.{◌≡◌, ℕ, zero, suc, ◌+◌, ◌-◌, ◌<◌, ◌≤◌, inl, inr, List, [], ◌∷◌, length, get_or, set}
use Rattle.std.proofs.Common.{Option, None, Some, refl, ap, ◌∙◌, arith, nat_eq, not}
use Rattle.std.specs.Prelude.{slice_get}
use Rattle.std.proofs.lemmas.Bool.{eq-eqb, le-ltb, lt-ltb, ne_eqb}
use Rattle.std.proofs.lemmas.List.Sums.{position_or_len_is, prefix_len-le-length}
use Rattle.std.proofs.lemmas.Option.{slice_get-get_or, get_or_from_slice_get, slice_get_within}
use Rattle.std.specs.List.{position_or_len}
use Rattle.ps_product.specs.declared.truth.Truth.{Truth}
use Rattle.ps_circuit.specs.Circuits.{CircuitData, ReadsGate}
use Rattle.ps_components.specs.Orders.{IsOrder}
use Rattle.ps_product.specs.Inner.Nets.{front_of}
use Rattle.ps_product.specs.Inner.Ranks.{RanksFall, rank}

abbrev pub unknown : List (Option Truth) → ℕ
unknown [] = 0
unknown (None ∷ xs) = suc (unknown xs)
unknown (Some truth ∷ xs) = unknown xs

pub unknown-set : (xs : List (Option Truth)) (p : ℕ) (truth : Truth) → p < length xs → get_or xs p None ≡ None →
    suc (unknown (set xs p (Some truth))) ≡ unknown xs
unknown-set [] p truth lt e = absurd (omega arith)
unknown-set (None ∷ xs) zero truth lt e = refl
unknown-set (Some other ∷ xs) zero truth lt e = cc
unknown-set (None ∷ xs) (suc p) truth lt e = ap suc (unknown-set xs p truth (omega arith) e)
unknown-set (Some other ∷ xs) (suc p) truth lt e = unknown-set xs p truth (omega arith) e

-- if an order has the entry i at the index k, searching the order for i gives k, since i occurs only once
position_at : {R : ℕ → ℕ → Type 0} {n : ℕ} {order : List ℕ} → IsOrder R n order → (k i : ℕ) →
    slice_get order k ≡ Some i → position_or_len (λ j. nat_eq j i) order ≡ k
position_at {order = order} is k i at =
    let lt = slice_get_within order k i at in
    let here : get_or order k 0 ≡ i = get_or_from_slice_get order k i 0 at in
    position_or_len_is (λ j. nat_eq j i) order k 0 (omega (arith, lt)) (λ j less. ne_eqb _ _ (λ e.
    let there : slice_get order j ≡ Some i = slice_get-get_or order j 0 (omega (arith, lt, less))
    ∙ ap (λ x. Some x) e in
    omega (arith, less, is.once j k i there at))) (λ _. eq-eqb _ _ here)

pub ranks_fall : {c : CircuitData} {order : List ℕ} → IsOrder (ReadsGate c.gates) (length c.gates) order →
    RanksFall c order
ranks_fall {c} {order} is = λ place lower b. elim b.below [
  | inl front ↦ rw (lt-ltb lower (front_of c) front, le-ltb place (front_of c) b.behind) (omega arith)
  | inr g ↦
      let i = place - front_of c in
      let j = lower - front_of c in
      let reads : ReadsGate c.gates i j = g.1 in
      let reader = is.each i (slice_get_within c.gates i reads.reader reads.at_i) in
      let read = is.each j (slice_get_within c.gates j reads.read reads.at_j) in
      rw (
        le-ltb lower (front_of c) g.0,
        le-ltb place (front_of c) b.behind,
        position_at is reader.0 i reader.1,
        position_at is read.0 j read.1,
      ) (omega (arith, is.behind reader.0 read.0 i j reader.1 read.1 reads))
]

pub rank_bound : (c : CircuitData) (order : List ℕ) (place : ℕ) → rank c order place < length order + 2
rank_bound c order place =
    let most : position_or_len (λ i. nat_eq i (place - front_of c)) order ≤ length order =
    prefix_len-le-length (λ j. not (nat_eq j (place - front_of c))) order in
    grind arith
