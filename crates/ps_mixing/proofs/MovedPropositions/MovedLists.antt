-- Lists of propositions, of which each is moved.
use Rattle.std.specs.Prelude.{◌≡◌, ℕ, Bool, true, false, not, if◌then◌else◌, nat_eq, List, [], ◌∷◌, map}
use Rattle.std.proofs.Common.{refl, sym, ap, ◌∙◌, inl, inr}
use Rattle.std.proofs.lemmas.Bool.{cases_eq, eq-eqb, ne_eqb}
use Rattle.ps_hoa.specs.Files.{is_among}
use Rattle.ps_mixing.specs.Mixings.{Mixing, IsMixing}

pub not_same : (a b : Bool) → not a ≡ not b → a ≡ b
not_same true true same = refl
not_same true false same = absurd (cc same)
not_same false true same = absurd (cc same)
not_same false false same = refl

module _ {n : ℕ} {is_first : ℕ → Bool} {mixing : Mixing} (is : IsMixing n is_first mixing) where
  pub test_moved : (p m : ℕ) → nat_eq p (mixing.to m) ≡ nat_eq (mixing.from p) m
  test_moved p m = elim (cases_eq (mixing.from p) m) [
    | inl same ↦ eq-eqb p (mixing.to m) (sym (is.forth p) ∙ ap mixing.to same) ∙ sym (eq-eqb (mixing.from p) m same)
    | inr differ ↦ ne_eqb p (mixing.to m) (λ same. differ (ap mixing.from same ∙ is.back m)) ∙
        sym (ne_eqb (mixing.from p) m differ)
  ]

  pub among_moved : (ps : List ℕ) (p : ℕ) → is_among p (map mixing.to ps) ≡ is_among (mixing.from p) ps
  among_moved [] p = refl
  among_moved (m ∷ ps) p = ap (λ (b : Bool). if b then true else is_among p (map mixing.to ps)) (test_moved p m) ∙
      ap (λ (b : Bool). if nat_eq (mixing.from p) m then true else b) (among_moved ps p)
