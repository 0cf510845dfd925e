-- The values that the computed functions have at a letter are the outputs and the next latches of the circuit's step.
use Rattle.std.proofs.Common.{◌≡◌, ℕ, ◌^◌, ◌<◌, Bool, false, List, [], ◌∷◌, length, map, get_or, refl, ap, sym, ◌∙◌}
use Rattle.std.proofs.Common.{arith}
use Rattle.std.proofs.lemmas.List.{ext_get_or, get_or-map, length-map}
use Rattle.std.proofs.lemmas.Option.{slice_get-get_or}
use Rattle.ps_circuit.specs.declared.parts.Latch.{Latch}
use Rattle.ps_circuit.specs.Circuits.{CircuitData}
use Rattle.ps_circuit.specs.Values.{AreValues, HasOneValues, Steps, bit_of}
use Rattle.ps_diagram.specs.Table.{Table}
use Rattle.ps_product.specs.Truths.{AreTruthsOf, IsOutcome, bits_at, bits_of, truth_at}
use Rattle.ps_product.specs.declared.truth.Truth.{Truth}
use Rattle.ps_product.specs.declared.truth.Truth.TheVariants.{Never}

bits_of_nexts : (values : List Bool) (latches : List Latch) →
    map (λ l. bit_of values l.next) latches ≡ map (bit_of values) (map (λ l. l.next) latches)
bits_of_nexts values [] = refl
bits_of_nexts values (l ∷ ls) = ap (λ (bits : List Bool). bit_of values l.next ∷ bits) (bits_of_nexts values ls)

module _ (c : CircuitData) (propositions : List ℕ) (latches : List Bool) (t : Table) (letter : ℕ)
    (lt : letter < 2 ^ t.propositions) (values : List Bool)
    (are : AreValues c (bits_at propositions letter) latches values)
  where
    bits_are : (truths : List Truth) (literals : List ℕ) → AreTruthsOf c propositions latches t truths literals →
        map (bit_of values) literals ≡ bits_of t truths letter
    bits_are truths literals h =
        let many = length-map literals (bit_of values) in
        ext_get_or false _ _ (many ∙ sym h.one_each ∙ sym (length-map truths (λ m. truth_at t m letter))) (λ k within.
        let here : k < length literals = omega (arith, many, within) in
        let there : k < length truths = omega (arith, here, h.one_each) in
        let at = h.each k (get_or literals k 0) (get_or truths k Never) (slice_get-get_or truths k Never there)
        (slice_get-get_or literals k 0 here) in
        get_or-map (bit_of values) literals k 0 false here ∙ sym (at.holds letter values lt are)
        ∙ sym (get_or-map (λ m. truth_at t m letter) truths k Never false there))

    step_of : (outputs nexts : List Truth) → IsOutcome c propositions latches t outputs nexts →
        Steps c latches (bits_at propositions letter) (bits_of t outputs letter) (bits_of t nexts letter)
    step_of outputs nexts h = record {
      values = values;
      are_values = are;
      outputs_are = sym (bits_are outputs c.outputs h.outputs_are);
      next_are = sym (bits_of_nexts values c.latches ∙ bits_are nexts (map (λ l. l.next) c.latches) h.nexts_are);
    }

pub step_there : (c : CircuitData) (propositions : List ℕ) (latches : List Bool) (t : Table)
    (outputs nexts : List Truth) (letter : ℕ) → HasOneValues c → length propositions ≡ length c.inputs →
    length latches ≡ length c.latches → IsOutcome c propositions latches t outputs nexts →
    letter < 2 ^ t.propositions →
    Steps c latches (bits_at propositions letter) (bits_of t outputs letter) (bits_of t nexts letter)
step_there c propositions latches t outputs nexts letter one inputs held h lt =
    let wide = length-map propositions (λ p. Rattle.ps_label.specs.Truth.is_in p letter) in
    let found = one.some (bits_at propositions letter) latches (wide ∙ inputs) held in
    step_of c propositions latches t letter lt found.0 found.1 outputs nexts h

pub step_one : (c : CircuitData) (propositions : List ℕ) (latches : List Bool) (t : Table) (outputs nexts : List Truth)
    (letter : ℕ) (answer next : List Bool) → IsOutcome c propositions latches t outputs nexts →
    letter < 2 ^ t.propositions → Steps c latches (bits_at propositions letter) answer next →
    (answer ≡ bits_of t outputs letter) × (next ≡ bits_of t nexts letter)
step_one c propositions latches t outputs nexts letter answer next h lt s =
    let bits = bits_are c propositions latches t letter lt s.values s.are_values in (
      s.outputs_are ∙ bits outputs c.outputs h.outputs_are,
      s.next_are ∙ bits_of_nexts s.values c.latches ∙ bits nexts (map (λ l. l.next) c.latches) h.nexts_are,
    )
