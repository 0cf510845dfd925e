-- Lemmas about the test whether a circuit's outputs, at given latches, depend on its inputs.
use Rattle.std.proofs.Common.{◌≡◌, ℕ, zero, suc, ◌^◌, ◌<◌, Bool, true, false, List, [], ◌∷◌, length, map, get_or, All}
use Rattle.std.proofs.Common.{nat_eq, refl, ap, sym, ◌∙◌, arith, if◌then◌else◌}
use Rattle.std.specs.List.{list_any}
use Rattle.std.specs.Prelude.{is_some}
use Rattle.std.proofs.lemmas.Bool.{eq-eqb, ne_eqb}
use Rattle.std.proofs.lemmas.List.{ext_get_or, get_or-map, length-map}
use Rattle.std.proofs.lemmas.Option.{slice_get-get_or}
use Rattle.ps_circuit.specs.Circuits.{CircuitData}
use Rattle.ps_circuit.specs.Values.{Steps, bit_of}
use Rattle.ps_diagram.specs.Letters.{letter_of}
use Rattle.ps_diagram.specs.Table.{Table, leaf_of}
use Rattle.ps_diagram.proofs.NodeTables.Cells.{true_is_not_false}
use Rattle.ps_diagram.proofs.Letters.{letter_is, letter_lt}
use Rattle.ps_label.specs.Truth.{is_in}
use Rattle.ps_product.specs.Groups.{AreDifferent, is_sometimes}
use Rattle.ps_product.specs.Inner.Edges.{SeesNoInputAt}
use Rattle.ps_product.specs.Truths.{AreTruthsOf, IsTruth, bits_at, bits_of, truth_at}
use Rattle.ps_product.specs.declared.truth.Truth.{Truth}
use Rattle.ps_product.specs.declared.truth.Truth.TheVariants.{Never, Always, Sometimes}
use Rattle.ps_product.proofs.CircuitFunctions.TruthLemmas.{signed_same, some_where}

-- ## A letter with given bits

place : ℕ → List ℕ → ℕ
place p [] = 0
place p (q ∷ qs) = if nat_eq q p then 0 else suc (place p qs)

place_at : (ps : List ℕ) → AreDifferent ps → (k : ℕ) → k < length ps → place (get_or ps k 0) ps ≡ k
unfolding place
place_at [] differ k lt = absurd (omega (arith, lt))
place_at (p ∷ ps) differ zero lt =
    ap (λ b. if b then 0 else suc (place p ps)) (eq-eqb p p refl)
place_at (p ∷ ps) differ (suc k) lt =
    let ne : p ≡ get_or ps k 0 → ⊥ = λ e.
    let same : 0 ≡ suc k = differ 0 (suc k) (omega arith) lt e in absurd (omega (arith, same)) in
    let rest : AreDifferent ps = λ i j li lj e.
    let s = differ (suc i) (suc j) (omega (arith, li)) (omega (arith, lj)) e in omega (arith, s) in
    ap (λ b. if b then 0 else suc (place (get_or ps k 0) ps)) (ne_eqb p (get_or ps k 0) ne)
    ∙ ap suc (place_at ps rest k (omega (arith, lt)))

pub letter_with : (n : ℕ) (ps : List ℕ) → AreDifferent ps → ((k : ℕ) → k < length ps → get_or ps k 0 < n) →
    (bits : List Bool) → length bits ≡ length ps → (x : ℕ) × (x < 2 ^ n) × (bits_at ps x ≡ bits)
letter_with n ps differ within bits size =
    let f = λ (p : ℕ). get_or bits (place p ps) false in
    let x = letter_of n f in (
      x,
      letter_lt n f,
      ext_get_or false (bits_at ps x) bits (length-map ps (λ p. is_in p x) ∙ sym size) (λ k lt.
          let less : k < length ps = omega (arith, lt, length-map ps (λ p. is_in p x)) in
          get_or-map (λ p. is_in p x) ps k 0 false less ∙ letter_is n f (get_or ps k 0) (within k less)
          ∙ ap (λ j. get_or bits j false) (place_at ps differ k less)),
    )

-- ## Functions of letters

pub truths_are : {c : CircuitData} {propositions : List ℕ} {latches : List Bool} {t : Table} (truths : List Truth)
    (literals : List ℕ) → AreTruthsOf c propositions latches t truths literals → All (IsTruth t) truths
truths_are truths literals h k d lt =
    let less : k < length literals = omega (arith, lt, h.one_each) in
    (h.each k (get_or literals k 0) (get_or truths k d) (slice_get-get_or truths k d lt)
    (slice_get-get_or literals k 0 less)).is_truth

constant_bits : (t : Table) (truths : List Truth) → list_any is_sometimes truths ≡ false → (x y : ℕ) →
    bits_of t truths x ≡ bits_of t truths y
constant_bits t [] e x y = refl
constant_bits t (Never ∷ ms) e x y = ap (λ (bs : List Bool). false ∷ bs) (constant_bits t ms e x y)
constant_bits t (Always ∷ ms) e x y = ap (λ (bs : List Bool). true ∷ bs) (constant_bits t ms e x y)
constant_bits t (Sometimes g n ∷ ms) e x y = absurd (true_is_not_false e)

some_varies : (truths : List Truth) → list_any is_sometimes truths ≡ true →
    (k : ℕ) × (n : ℕ) × (g : Bool) × (k < length truths) × (get_or truths k Never ≡ Sometimes g n)
some_varies [] e = absurd (true_is_not_false (sym e))
some_varies (Never ∷ ms) e = let r = some_varies ms e in (suc r.0, r.1, r.2, omega (arith, r.3), r.4)
some_varies (Always ∷ ms) e = let r = some_varies ms e in (suc r.0, r.1, r.2, omega (arith, r.3), r.4)
some_varies (Sometimes g n ∷ ms) e = (0, n, g, omega arith, refl)

module _ {c : CircuitData} (ins : List ℕ) {latches : List Bool} (t : Table) (outs nexts : List Truth)
    (there : (x : ℕ) → x < 2 ^ t.propositions →
    Steps c latches (bits_at ins x) (bits_of t outs x) (bits_of t nexts x))
    (one : (x : ℕ) (answer next : List Bool) → x < 2 ^ t.propositions →
    Steps c latches (bits_at ins x) answer next → (answer ≡ bits_of t outs x) × (next ≡ bits_of t nexts x)) where
  pub blind_at : AreDifferent ins → ((k : ℕ) → k < length ins → get_or ins k 0 < t.propositions) →
      length ins ≡ length c.inputs → list_any is_sometimes outs ≡ false → SeesNoInputAt c latches
  blind_at differ within size e inputs others outputs other_outputs next other_next s r =
      let wide : length inputs ≡ length ins =
      ap (λ (bs : List Bool). length bs) (sym s.are_values.inputs_are) ∙ length-map c.inputs (bit_of s.values)
      ∙ sym size in
      let other_wide : length others ≡ length ins =
      ap (λ (bs : List Bool). length bs) (sym r.are_values.inputs_are) ∙ length-map c.inputs (bit_of r.values)
      ∙ sym size in
      let x = letter_with t.propositions ins differ within inputs wide in
      let y = letter_with t.propositions ins differ within others other_wide in
      let a = one x.0 outputs next x.1 (rw x.2 s) in
      let b = one y.0 other_outputs other_next y.1 (rw y.2 r) in
      a.0 ∙ constant_bits t outs e x.0 y.0 ∙ sym b.0

  pub sees_at : All (IsTruth t) outs → list_any is_sometimes outs ≡ true → ¬ SeesNoInputAt c latches
  sees_at truths e all =
      let v = some_varies outs e in
      let k = v.0 in
      let n = v.1 in
      let is = let P : Truth → Type 0 = IsTruth t in
      Rattle.std.proofs.Common.subst P v.4 (truths k Never v.3) in
      let below = letter_lt t.propositions (λ p. false) in
      let low : 0 < 2 ^ t.propositions = omega (arith, below) in
      let bit = is_some (leaf_of t n 0) in
      is.varies bit (λ letter lt.
      let same : bits_of t outs letter ≡ bits_of t outs 0 =
      all (bits_at ins letter) (bits_at ins 0) (bits_of t outs letter) (bits_of t outs 0) (bits_of t nexts letter)
      (bits_of t nexts 0) (there letter lt) (there 0 low) in
      let at = λ (x : ℕ). get_or-map (λ m. truth_at t m x) outs k Never false v.3
      ∙ ap (λ (m : Truth). truth_at t m x) v.4 in
      let bits_same : is_some (leaf_of t n letter) ≡ bit =
      signed_same v.2 _ _ (sym (at letter) ∙ ap (λ (bs : List Bool). get_or bs k false) same ∙ at 0) in
      let one_leaf = is.leaves letter in
      let b_same : one_leaf.0 ≡ bit = sym (some_where one_leaf.0) ∙ ap is_some (sym one_leaf.1) ∙ bits_same in
      rw (← b_same) one_leaf.1)
