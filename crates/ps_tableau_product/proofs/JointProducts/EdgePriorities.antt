-- The priorities of the edges of the product with an automaton, each once.
use Rattle.std.proofs.Common.{◌≡◌, ℕ, inl, inr, List, [], ◌∷◌, ◌++◌}
use Rattle.std.proofs.Common.{Some, get_or, length, nat_eq, refl, ap, ◌∙◌}
use Rattle.std.specs.Prelude.{Contains, slice_get}
use Rattle.std.proofs.lemmas.Bool.{eqb-true}
use Rattle.std.proofs.lemmas.Option.{slice_get-get_or}
use Rattle.ps_diagram.proofs.ClassesOfLetters.Distinct.{at_end}
use Rattle.ps_keys.specs.Keys.{IsPlacedKey}
use Rattle.ps_product.specs.Words.{HasGrown}
use Rattle.ps_product.proofs.ExploredProducts.WordNumbers.{grown_none, still_there}
use Rattle.ps_tableau_product.proofs.FairProducts.RowLemmas.{found_in}

-- an element that was read from a list is the list's own
pub row_inside : {X : Type 0} (xs ys : List X) (i : ℕ) (x : X) → xs ≡ ys → x ≡ get_or xs i x → x ≡ get_or ys i x
row_inside {X} xs ys i x same is = is ∙ ap (λ (l : List X). get_or l i x) same

pub number_placed : (old new : List ℕ) (key place : ℕ) → IsPlacedKey nat_eq old new key place →
    HasGrown old new × Contains new key
number_placed old new key place placed = elim placed [
  | inl known ↦ rw known.0 (
    grown_none old,
    (place, known.1, eqb-true (get_or old place key) key (known.2 key)),
  )
  | inr fresh ↦ rw fresh.0 (
    record { more = key ∷ []; is = refl },
    found_in (old ++ key ∷ []) (length old) key (at_end old key),
  )
]

pub contains_grown : {xs ys : List ℕ} (x : ℕ) → HasGrown xs ys → Contains xs x → Contains ys x
contains_grown {xs} {ys} x grown there =
    let at : slice_get xs there.0 ≡ Some x =
    slice_get-get_or xs there.0 x there.1 ∙ ap (λ (n : ℕ). Some n) there.2 in
    found_in ys there.0 x (still_there there.0 grown at)
