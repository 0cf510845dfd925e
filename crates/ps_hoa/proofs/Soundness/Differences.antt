-- Lists to which a number is added only if it is not yet in the list (`once`). The numbers in such a list differ. If
-- all numbers that are added have a property, the numbers in the list have it.
-- - `neither`: if a disjunction is false, both operands are false
-- - `all_once`, `different_once`: after one more number, the numbers in the list still have the property, and still
--   differ
use Rattle.std.proofs.Common.{◌≡◌, ℕ, Bool, true, false, cond, List, [], ◌∷◌, ◌++◌, refl, arith, rules}
use Rattle.std.proofs.lemmas.Bool.{cond_both}
use Rattle.std.specs.List.{AllByRecursion}
use Rattle.std.specs.Prelude.{nat_eq}
use Rattle.ps_hoa.specs.Files.{is_among, once}
use Rattle.ps_hoa.specs.Sound.{AreDifferent}
use Rattle.ps_hoa.proofs.Soundness.SoundLabels.{all_push}

pub neither : (a b : Bool) → cond a true b ≡ false → (a ≡ false) × (b ≡ false)
neither a b h = search rules

pub nat_eq_not : (a b : ℕ) → nat_eq a b ≡ false → nat_eq b a ≡ false
nat_eq_not a b e = grind arith

not_among : (m n : ℕ) (ns : List ℕ) → is_among m ns ≡ false → nat_eq m n ≡ false → is_among m (ns ++ n ∷ []) ≡ false
not_among m n [] e d = rw d refl
not_among m n (k ∷ ns) e d = let f = neither (nat_eq m k) (is_among m ns) e in rw (f.0, not_among m n ns f.1 d) refl

pub different_push : (ns : List ℕ) (n : ℕ) → AreDifferent ns → is_among n ns ≡ false → AreDifferent (ns ++ n ∷ [])
different_push [] n a e = (refl, tt)
different_push (m ∷ ns) n a e = let f = neither (nat_eq n m) (is_among n ns) e in
    (not_among m n ns a.0 (nat_eq_not n m f.0), different_push ns n a.1 f.1)

pub different_once : (ns : List ℕ) (n : ℕ) → AreDifferent ns → AreDifferent (once ns n)
different_once ns n a = cond_both (is_among n ns) ns (ns ++ n ∷ []) AreDifferent (λ _. a) (different_push ns n a)

pub all_once : (P : ℕ → Type 0) (ns : List ℕ) (n : ℕ) → AllByRecursion P ns → P n → AllByRecursion P (once ns n)
all_once P ns n a p = search (rules, cond_both, all_push)
