-- A step and the step after it have at most one result together if each of the two steps has at most one result.
use Rattle.std.proofs.Common.{arith, ◌≡◌, ◌⊎◌, ◌∙◌, ℕ, Bool, true, false, List, Result, Ok, Err, refl, sym, ap, inl}
use Rattle.std.proofs.Common.{inr}
use Rattle.ps_text.specs.Answers.{Found}
use Rattle.ps_program.specs.Faults.{text_line}
use Rattle.ps_program.specs.Outcomes.{Then, Reading}

abbrev pub ok_of : {V E : Type 0} → V → Result V E
ok_of v = Ok v

abbrev pub err_of : {V E : Type 0} → E → Result V E
err_of e = Err e

-- at most one value has the property P
abbrev pub IsOne : {V : Type 0} → (V → Type 0) → Type 0
IsOne {V} P = (x y : V) → P x → P y → x ≡ y

abbrev pub is_ok : {V E : Type 0} → Result V E → Bool
is_ok (Ok v) = true
is_ok (Err e) = false

pub ok_is_not_err : {V E : Type 0} (v : V) (e : E) → ok_of {V = V} {E = E} v ≡ Err e → ⊥
ok_is_not_err v e same = let bad : true ≡ false = ap (λ r. is_ok r) same in cc

abbrev pub ok_or : {V E : Type 0} → V → Result V E → V
ok_or other (Ok v) = v
ok_or other (Err e) = other

abbrev pub err_or : {V E : Type 0} → E → Result V E → E
err_or other (Ok v) = other
err_or other (Err e) = e

-- ---- steps

pub then_one : {V W : Type 0} (step : Result V (List ℕ) → Type 0) (next : V → Result W (List ℕ) → Type 0) → IsOne step →
    ((v : V) → IsOne (next v)) → IsOne (Then step next)
then_one {V} {W} step next one more x y (inl (l, s, e)) (inl (m, t, f)) = grind arith
then_one step next one more x y (inl (l, s, e)) (inr (v, t, n)) = absurd (ok_is_not_err v l (one (Ok v) (Err l) t s))
then_one step next one more x y (inr (v, s, n)) (inl (l, t, e)) = absurd (ok_is_not_err v l (one (Ok v) (Err l) s t))
then_one {V} {W} step next one more x y (inr (v, s, n)) (inr (w, t, m)) = grind arith

-- Results x and y of two steps in a row are equal, or the first step's value is `Open`. The premises: the first step
-- has at most one result; for each value that is not `Open`, results x and y of the second step are equal.
pub then_one_or : {V W : Type 0} (step : Result V (List ℕ) → Type 0) (next : V → Result W (List ℕ) → Type 0)
    (Open : V → Type 0) → IsOne step
    → (x y : Result W (List ℕ)) → ((v : V) → next v x → next v y → (x ≡ y) ⊎ Open v)
    → Then step next x → Then step next y → (x ≡ y) ⊎ ((v : V) × step (Ok v) × Open v)
then_one_or {V} {W} step next Open one x y more (inl (l, s, e)) (inl (m, t, f)) = grind arith
then_one_or step next Open one x y more (inl (l, s, e)) (inr (v, t, n)) = absurd (ok_is_not_err v l (grind arith))
then_one_or step next Open one x y more (inr (v, s, n)) (inl (l, t, e)) =
    absurd (ok_is_not_err v l (one (Ok v) (Err l) s t))
then_one_or {V} {W} step next Open one x y more (inr (v, s, n)) (inr (w, t, m)) = grind arith

pub ended_one : {W : Type 0} (end : Result W (List ℕ)) → IsOne {V = Result W (List ℕ)} (λ outcome. outcome ≡ end)
ended_one end x y a b = a ∙ sym b

-- ---- texts

module _ {V C : Type 0} (number : C → ℕ) (name : C → List ℕ) (reads : Result V (Found C) → Type 0) where
  abbrev lined : Result V (Found C) → Result V (List ℕ)
  lined (Ok v) = Ok v
  lined (Err found) = Err (text_line (number found.cause) (name found.cause) found.offset)

  as_read : (outcome : Result V (List ℕ)) → Reading number name reads outcome →
      (answer : Result V (Found C)) × reads answer × (outcome ≡ lined answer)
  as_read (Ok v) h = (Ok v, h, refl)
  as_read (Err l) (found, h, e) = (Err found, h, ap (err_of {V = V}) e)

  pub reading_one : IsOne reads → IsOne (Reading number name reads)
  reading_one one x y h k = grind (arith, as_read)
