-- The bits of the inputs or outputs of one circuit, put into the order in which another circuit has these names.
-- - `chosen`: if each place has a bit with a property, a list of bits has the property at each place
-- - `Agree`, `routed`: two lists of bits that agree at each name; such a list for given bits
use Rattle.std.proofs.Common.{◌≡◌, ◌∙◌, ◌<◌, ℕ, zero, suc, Bool, false, List, [], ◌∷◌, length, get_or, Option, ap, refl}
use Rattle.std.proofs.Common.{arith, subst, sym}
use Rattle.ps_hoa.specs.Files.{is_among}
use Rattle.ps_simulate.specs.Symbols.{AreDistinct, AreNamesOnce, IsSymbol}
use Rattle.ps_simulate.proofs.NamingLemmas.{some_same, within}

at_place : (n : ℕ) (P : ℕ → Bool → Type 0) (b : Bool) (bits : List Bool) → P zero b →
    ((k : ℕ) → k < n → P (suc k) (get_or bits k false)) → (k : ℕ) → k < suc n → P k (get_or (b ∷ bits) k false)
at_place n P b bits first rest zero less = first
at_place n P b bits first rest (suc k) less = rest k (omega (arith, less))

pub chosen : (n : ℕ) (P : ℕ → Bool → Type 0) → ((k : ℕ) → k < n → (b : Bool) × P k b) →
    (bits : List Bool) × (length bits ≡ n) × ((k : ℕ) → k < n → P k (get_or bits k false))
chosen zero P each = ([], refl, λ k less. absurd (omega (arith, less)))
chosen (suc n) P each =
    let first : (b : Bool) × P zero b = each zero (omega arith) in
    let rest = chosen n (λ k b. P (suc k) b) (λ k less. each (suc k) (omega (arith, less))) in
    (first.0 ∷ rest.0, omega (arith, rest.1), at_place n P first.0 rest.0 first.1 rest.2)

-- a symbol is the name of only one proposition
same_name : (names : List (List ℕ)) → AreDistinct names → (symbols : List (Option (List ℕ))) (k p q : ℕ) →
    IsSymbol names symbols k p → IsSymbol names symbols k q → p ≡ q
same_name names distinct symbols k p q a b =
    distinct p q a.within b.within (some_same _ _ (sym a.is ∙ b.is))

module _ {names : List (List ℕ)} {controllable : List ℕ} (distinct : AreDistinct names) (wanted : Bool) where
  pub side_of : (symbols : List (Option (List ℕ))) → AreNamesOnce names controllable wanted symbols → (k p : ℕ) →
      IsSymbol names symbols k p → is_among p controllable ≡ wanted
  side_of symbols once k p s =
      let found = once.some k (within symbols k (get_or names p []) s.is) in
      subst (λ (q : ℕ). is_among q controllable ≡ wanted) (same_name names distinct symbols k found.0 p found.1 s)
      found.2

  module _ (from to : List (Option (List ℕ))) (source : AreNamesOnce names controllable wanted from)
      (target : AreNamesOnce names controllable wanted to) where
    bit_for : (bits : List Bool) (k : ℕ) → k < length to → (b : Bool) ×
        ((j p : ℕ) → IsSymbol names from j p → IsSymbol names to k p → b ≡ get_or bits j false)
    bit_for bits k less =
        let at = target.some k less in
        let there = source.each at.0 at.1.within at.2 in (
          get_or bits there.0 false,
          λ j p s t. ap (λ (i : ℕ). get_or bits i false) (source.once there.0 j p
              (subst (λ (q : ℕ). IsSymbol names from there.0 q) (same_name names distinct to k at.0 p at.1 t) there.1)
              s),
        )

    pub routed : (bits : List Bool) → (others : List Bool) × (length others ≡ length to) ×
        ((j k p : ℕ) → IsSymbol names from j p → IsSymbol names to k p → get_or others k false ≡ get_or bits j false)
    routed bits =
        let found = chosen (length to) (λ k b. (j p : ℕ) → IsSymbol names from j p → IsSymbol names to k p →
        b ≡ get_or bits j false) (bit_for bits) in
        (found.0, found.1, λ j k p s t. found.2 k (within to k (get_or names p []) t.is) j p s t)
