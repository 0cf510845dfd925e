-- Lists of which each element has a property, element by element, and guards that are no single letter.
use Rattle.std.specs.Prelude.{◌≡◌, ℕ, ◌+◌, ◌<◌, ◌≤◌, List, length, map, take}
use Rattle.std.specs.List.{All}
use Rattle.std.proofs.Common.{refl, ap, sym, subst, arith, get_or}
use Rattle.std.proofs.lemmas.List.{get_or-map, length-map, map_more, take_all}
use Rattle.std.proofs.lemmas.List.Elements.{All-push}
use Rattle.ps_hoa.specs.Files.{at_letter}
use Rattle.ps_hoa.specs.Views.{guard_data}
use Rattle.ps_hoa.specs.declared.file.Guard.{Guard}
use Rattle.ps_hoa.specs.declared.file.Guard.TheVariants.{Stated, OfState, Letter}

module _ {X Y : Type 0} (f : X → Y) (P : Y → Type 0) where
  pub all_at : (xs : List X) (i : ℕ) (d : X) → i < length xs → All P (map f xs) → P (f (get_or xs i d))
  all_at xs i d less all =
      subst P (get_or-map f xs i d (f d) less) (all i (f d) (omega (arith, less, length-map xs f)))

  pub all_more : (xs : List X) (i : ℕ) (d : X) → i < length xs → All P (map f (take i xs)) → P (f (get_or xs i d)) →
      All P (map f (take (i + 1) xs))
  all_more xs i d less before here = subst (All P) (sym (map_more f xs i d less))
      (All-push P (map f (take i xs)) (f (get_or xs i d)) before here)

  pub all_of_them : (xs : List X) (i : ℕ) → length xs ≤ i → All P (map f (take i xs)) → All P (map f xs)
  all_of_them xs i past all = subst (All P) (ap (map f) (take_all i xs past)) all

pub no_letter : (guard : Guard) → ((n : ℕ) → guard ≡ Letter n → ⊥) → (k : ℕ) → guard_data guard ≡ at_letter k → ⊥
no_letter (Stated label) not k same = absurd (cc same)
no_letter OfState not k same = absurd (cc same)
no_letter (Letter n) not k same = not n refl
