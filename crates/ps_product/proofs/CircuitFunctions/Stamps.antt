-- Table entries with an old stamp are not valid: they count as forgotten.
use Rattle.std.proofs.Common.{◌≡◌, ℕ, zero, suc, ◌<◌, List, [], ◌∷◌, All, map, get_or, set, Option, None}
use Rattle.std.proofs.Common.{Some}
use Rattle.std.proofs.Common.{refl, ap, arith}
use Rattle.std.specs.Prelude.{replicate}
use Rattle.std.proofs.lemmas.Bool.{eq-eqb, ne_eqb}
use Rattle.std.proofs.lemmas.List.Elements.{All-tail}
use Rattle.ps_product.specs.Inner.Entries.{truth_in}
use Rattle.ps_product.specs.declared.known.Entry.{Entry}
use Rattle.ps_product.specs.declared.truth.Truth.{Truth}

pub forgotten : (stamp : ℕ) (entries : List Entry) → All (λ e. e.stamp < stamp) entries → (place : ℕ) →
    get_or (map (truth_in stamp) entries) place None ≡ None
forgotten stamp [] h place = refl
forgotten stamp (e ∷ es) h zero =
    let low = h 0 e (omega arith) in
    rw (ne_eqb e.stamp stamp (λ same. omega arith)) refl
forgotten stamp (e ∷ es) h (suc place) = forgotten stamp es (All-tail (λ e. e.stamp < stamp) e es h) place

pub put_in : (stamp : ℕ) (entries : List Entry) (place : ℕ) (truth : Truth) →
    map (truth_in stamp) (set entries place (record { stamp = stamp; truth = truth })) ≡
    set (map (truth_in stamp) entries) place (Some truth)
put_in stamp [] place truth = refl
put_in stamp (e ∷ es) zero truth = rw (eq-eqb stamp stamp refl) refl
put_in stamp (e ∷ es) (suc place) truth =
    ap (λ (xs : List (Option Truth)). truth_in stamp e ∷ xs) (put_in stamp es place truth)

-- a table that consists of copies of an entry with an old stamp has no valid entry
pub forgotten_copies : (stamp n : ℕ) (e : Entry) → e.stamp < stamp → (place : ℕ) →
    get_or (map (truth_in stamp) (replicate n e)) place None ≡ None
forgotten_copies stamp zero e low place = refl
forgotten_copies stamp (suc n) e low zero = rw (ne_eqb e.stamp stamp (λ same. omega arith)) refl
forgotten_copies stamp (suc n) e low (suc place) = forgotten_copies stamp n e low place
