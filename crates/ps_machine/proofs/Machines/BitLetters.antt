-- Letters that are given by bits: `bit_for` at a listed proposition and at another one, and the letters of a machine
-- whose output letters are stored bit by bit.
use Rattle.std.proofs.Common.{◌≡◌, ◌∙◌, ℕ, zero, suc, ◌+◌, ◌<◌, ◌≤◌, Bool, true, false, cond, List, [], ◌∷◌}
use Rattle.std.proofs.Common.{length, get_or, slice_get, Some, refl, sym, ap, ap₂, arith, inl, inr, AllPairs}
use Rattle.std.specs.Prelude.{is_some}
use Rattle.std.proofs.lemmas.Bool.{eq-eqb, cases_eq, ne_eqb}
use Rattle.std.proofs.lemmas.Option.{slice_get_within, get_or_from_slice_get}
use Rattle.ps_diagram.specs.Table.{Table, leaf_of}
use Rattle.ps_diagram.proofs.NodeTables.Cells.{true_is_not_false}
use Rattle.ps_hoa.specs.Files.{is_among}
use Rattle.ps_machine.specs.BitMachines.{bit_for, bits_at}

-- ascending numbers, each at least m
pub record AreFrom (m : ℕ) (ps : List ℕ) : Type 0 where
  pub from : (k : ℕ) → k < length ps → m ≤ get_or ps k 0
  pub rise : AllPairs (λ p q. p < q) ps

pub from-tail : (m p : ℕ) (ps : List ℕ) → AreFrom m (p ∷ ps) → AreFrom (p + 1) ps
from-tail m p ps a = record {
  from = λ k lt. (let h : p < get_or ps k 0 = a.rise 0 (suc k) 0 (omega arith) (omega arith) in omega arith);
  rise = λ i j d lt within. a.rise (suc i) (suc j) d (omega arith) (omega arith);
}

pub from_least : (ps : List ℕ) → AllPairs (λ p q. p < q) ps → AreFrom 0 ps
from_least ps rise = record { from = λ k lt. omega arith; rise = rise }

pub bit_for-at : (m : ℕ) (ps : List ℕ) (bits : List Bool) (k p : ℕ) → AreFrom m ps → slice_get ps k ≡ Some p →
    k < length bits → bit_for ps bits p ≡ get_or bits k false
bit_for-at m [] bits k p a at lt = absurd (none_here k at)
  where
    none_here : (k : ℕ) → slice_get [] k ≡ Some p → ⊥
    none_here k e = cc
bit_for-at m (x ∷ ps) [] k p a at lt = absurd (omega arith)
bit_for-at m (x ∷ ps) (b ∷ bits) zero p a at lt = ap (λ t. cond t b (bit_for ps bits p)) (eq-eqb x p (some_is x p at))
  where
    some_is : (c d : ℕ) → Some c ≡ Some d → c ≡ d
    some_is c d e = cc
bit_for-at m (x ∷ ps) (b ∷ bits) (suc k) p a at lt = ap (λ t. cond t b (bit_for ps bits p)) (ne_eqb x p other)
    ∙ bit_for-at (x + 1) ps bits k p (from-tail m x ps a) at (omega arith)
  where
    other : x ≡ p → ⊥
    other e = (let within = slice_get_within ps k p at in let is = get_or_from_slice_get ps k p 0 at in
        let h = (from-tail m x ps a).from k within in absurd (omega arith))

pub bit_for-none : (ps : List ℕ) (bits : List Bool) (q : ℕ) → is_among q ps ≡ false → bit_for ps bits q ≡ false
bit_for-none [] bits q h = refl
bit_for-none (p ∷ ps) [] q h = refl
bit_for-none (p ∷ ps) (b ∷ bits) q h = elim (cases_eq q p) [
  | inl e ↦ absurd (true_is_not_false (sym (ap (λ t. cond t true (is_among q ps)) (eq-eqb q p e)) ∙ h))
  | inr ne ↦ ap (λ t. cond t b (bit_for ps bits q)) (ne_eqb p q (λ e. ne (sym e)))
      ∙ bit_for-none ps bits q (sym (ap (λ t. cond t true (is_among q ps)) (ne_eqb q p ne)) ∙ h)
]

-- diagrams that have leaves at the same ones of two letters give the same bits
pub bits_same : (t : Table) (nodes : List ℕ) (x y : ℕ) → ((place : ℕ) → place < length nodes →
    is_some (leaf_of t (get_or nodes place 0) x) ≡ is_some (leaf_of t (get_or nodes place 0) y)) →
    bits_at t nodes x ≡ bits_at t nodes y
bits_same t [] x y h = refl
bits_same t (node ∷ nodes) x y h = ap₂ (λ (b : Bool) (bits : List Bool). b ∷ bits) (h 0 (omega arith))
    (bits_same t nodes x y (λ place within. h (suc place) (omega arith)))
