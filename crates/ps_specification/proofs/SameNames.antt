-- Lists of vectors are equal, as far as `==` sees, exactly if the lists of their items are.
use Rattle.std.proofs.Common.{◌≡◌, ◌∙◌, ℕ, Bool, List, [], ◌∷◌, ap, map, refl}
use Rattle.std.proofs.lemmas.Bool.Decides.{Decides-eqb}
use Rattle.std.proofs.lemmas.Slice.Eq.{slice_eq-Decides}
use Rattle.std.specs.Bool.{Decides}
use Rattle.std.specs.Prelude.{nat_eq, ◌&&◌}
use lib.Pointwise.{pointwise}

module _ {V : Type 0} (items : V → List ℕ) where
  mapped : (xs ys : List V) → pointwise (λ x y. pointwise nat_eq (items x) (items y)) xs ys ≡
      pointwise (pointwise nat_eq) (map items xs) (map items ys)
  mapped [] [] = refl
  mapped [] (y ∷ ys) = refl
  mapped (x ∷ xs) [] = refl
  mapped (x ∷ xs) (y ∷ ys) = ap (λ (b : Bool). pointwise nat_eq (items x) (items y) && b) (mapped xs ys)

  lists_decided : (a b : List ℕ) → Decides (pointwise nat_eq a b) (a ≡ b)
  lists_decided a b = slice_eq-Decides Decides-eqb a b (pointwise nat_eq a b) refl

  pub items_decided : (xs ys : List V) (r : Bool) →
      r ≡ pointwise (λ x y. pointwise nat_eq (items x) (items y)) xs ys → Decides r (map items xs ≡ map items ys)
  items_decided xs ys r is =
      slice_eq-Decides lists_decided (map items xs) (map items ys) r (is ∙ mapped xs ys)
