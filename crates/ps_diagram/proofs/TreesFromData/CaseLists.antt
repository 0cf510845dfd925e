-- Lists of cases: the propositions on which they have literals, and the cases that allow a truth value of a
-- proposition.
use Rattle.std.proofs.Common.{◌≡◌, ℕ, zero, suc, ◌+◌, ◌<◌, Bool, true, false, List, [], ◌∷◌, length, get_or, arith}
use Rattle.std.proofs.Common.{inl, inr, bit_or, cond, refl, sym, ap, ◌∙◌}
use Rattle.std.specs.List.{Contains, filter}
use Rattle.std.specs.Prelude.{◌||◌}
use Rattle.std.proofs.lemmas.Bool.{cases_lt}
use Rattle.std.proofs.lemmas.List.{get_or_default}
use Rattle.ps_label.specs.Truth.{is_in}
use Rattle.ps_diagram.specs.Products.{allows}
use Rattle.ps_diagram.specs.declared.cases.Case.{Case}
use Rattle.ps_diagram.specs.declared.products.Product.{Product}
use Rattle.ps_diagram.proofs.TreesFromData.Literals.{in_or}

-- an entry of a list that no index of the list reads
abbrev pub no_case : Case
no_case = record { product = record { positive = 0; negative = 0 }; leaf = 0; kind = 0 }

-- each of the first `count` cases allows both truth values of a proposition that is not in the set `tested`
abbrev pub AreTestedBy : List Case → (count tested : ℕ) → Type 0
AreTestedBy cases count tested =
    (k : ℕ) (d : Case) → k < count → (p : ℕ) → is_in p tested ≡ false → (b : Bool) →
    allows (get_or cases k d).product p b ≡ true

none_of : (a b : Bool) → (a || b) ≡ false → (a ≡ false) × (b ≡ false)
none_of false b e = (refl, e)
none_of true b e = cc

free : (product : Product) (p : ℕ) → is_in p product.positive ≡ false → is_in p product.negative ≡ false → (b : Bool) →
    allows product p b ≡ true
free product p up down true = rw down refl
free product p up down false = rw up refl

pub tested_more : (cases : List Case) (count tested : ℕ) (e : Case) → count < length cases →
    AreTestedBy cases count tested → AreTestedBy cases (count + 1)
    (bit_or tested (bit_or (get_or cases count e).product.positive (get_or cases count e).product.negative))
tested_more cases count tested e within were k d low p isnt b =
    let x = (get_or cases count e).product in
    let apart = none_of (is_in p tested) (is_in p (bit_or x.positive x.negative))
    (sym (in_or p tested (bit_or x.positive x.negative)) ∙ isnt) in
    elim (cases_lt k count) [
      | inl before ↦ were k d before p apart.0 b
      | inr at ↦
          let both =
          none_of (is_in p x.positive) (is_in p x.negative) (sym (in_or p x.positive x.negative) ∙ apart.1) in
          let is : k ≡ count = omega arith in
          rw (is, get_or_default cases count d e within) (free x p both.0 both.1 b)
    ]

-- ## Filtered lists

in_rest : (b : Bool) (y : Case) (ys : List Case) (x : Case) → Contains ys x → Contains (cond b (y ∷ ys) ys) x
in_rest false y ys x c = c
in_rest true y ys x (k, low, is) = (suc k, omega arith, is)

pub in_filter : (p : Case → Bool) (xs : List Case) (x : Case) → Contains xs x → p x ≡ true → Contains (filter p xs) x
in_filter p [] x (k, low, is) e = absurd (omega arith)
in_filter p (y ∷ ys) x (zero, low, is) e = rw (ap p is ∙ e) (0, omega arith, is)
in_filter p (y ∷ ys) x (suc k, low, is) e =
    in_rest (p y) y (filter p ys) x (in_filter p ys x (k, omega arith, is) e)

from_next : (p : Case → Bool) (y : Case) (ys : List Case) (x : Case) → ((c : Contains (filter p ys) x) →
    Contains ys x × (p x ≡ true)) → (b : Bool) → p y ≡ b → Contains (cond b (y ∷ filter p ys) (filter p ys)) x →
    Contains (y ∷ ys) x × (p x ≡ true)
from_next p y ys x behind false e c = let r = behind c in (in_rest true y ys x r.0, r.1)
from_next p y ys x behind true e (zero, low, is) = ((0, omega arith, is), sym (ap p is) ∙ e)
from_next p y ys x behind true e (suc k, low, is) =
    let r = behind (k, omega arith, is) in (in_rest true y ys x r.0, r.1)

pub from_filter : (p : Case → Bool) (xs : List Case) (x : Case) → Contains (filter p xs) x →
    Contains xs x × (p x ≡ true)
from_filter p [] x (k, low, is) = absurd (omega arith)
from_filter p (y ∷ ys) x c = from_next p y ys x (from_filter p ys x) (p y) refl c
