-- The Boolean functions of a list of literals are computed one after another.
use Rattle.std.proofs.Common.{◌≡◌, ℕ, ◌^◌, ◌<◌, inl, inr, List, [], ◌∷◌, ◌++◌, All, length, map, Some, ap}
use Rattle.std.proofs.Common.{refl}
use Rattle.std.proofs.Common.{◌∙◌, arith, get_or, length-append}
use Rattle.std.specs.Prelude.{slice_get}
use Rattle.std.proofs.lemmas.List.{get_or-map, length-map}
use Rattle.std.proofs.lemmas.Option.{slice_get-get_or, slice_get_within, get_or_from_slice_get}
use Rattle.ps_circuit.specs.declared.parts.Latch.{Latch}
use Rattle.ps_circuit.specs.Circuits.{CircuitData, IsCircuit, IsKnown, definitions}
use Rattle.ps_diagram.specs.Table.{Table, Keeps}
use Rattle.ps_diagram.proofs.ClassesOfLetters.Distinct.{at_last}
use Rattle.ps_product.specs.Inner.Knowing.{AreTruthsAlong, IsTruthAlong, IsTruthAt}
use Rattle.ps_product.specs.Truths.{AreTruthsOf, IsTruth, truth_at, bit_by_wire}
use Rattle.ps_product.specs.declared.site.Site.{Site}
use Rattle.ps_product.specs.declared.truth.Truth.{Truth}
use Rattle.ps_product.proofs.CircuitFunctions.NetLemmas.{read_is}
use Rattle.ps_product.proofs.CircuitFunctions.TruthLemmas.{truth_kept, truth_same}
use Rattle.ps_simulate.specs.declared.plan.Wire.{Wire}
use Rattle.ps_simulate.specs.Plans.{variables, wire_of}
use Rattle.ps_simulate.proofs.EvaluationPlans.PlacesLemmas.{next_known, place_known}
use Rattle.ps_simulate.proofs.EvaluationPlans.RowLemmas.{no_latch}

-- the function of a literal is the function of its variable, negated if the literal is negated
pub truth_along : (s : Site) {t u : Table} (w : Wire) (truth made : Truth) → Keeps t u → IsTruthAt s t w.place truth →
    IsTruth u made →
    ((letter : ℕ) → letter < 2 ^ t.propositions → truth_at u made letter ≡ bit_by_wire w (truth_at t truth letter)) →
    IsTruthAlong s u w made
truth_along s {t} w truth made k at is wire = record {
  is_truth = is;
  holds = λ letter values lt are.
      let low : letter < 2 ^ t.propositions = rw k.propositions at lt in
      wire letter low ∙ ap (bit_by_wire w) (at.holds letter values low are);
}

pub along_kept : (s : Site) {t u : Table} (ws : List Wire) (ms : List Truth) → Keeps t u → AreTruthsAlong s t ws ms →
    AreTruthsAlong s u ws ms
along_kept s {t} ws ms k h = record {
  one_each = h.one_each;
  each = λ i w truth at_w at_m.
      let old = h.each i w truth at_w at_m in
      record {
        is_truth = truth_kept k truth old.is_truth;
        holds = λ letter values lt are.
            let low : letter < 2 ^ t.propositions = rw k.propositions at lt in
            truth_same k truth old.is_truth letter ∙ old.holds letter values low are;
      };
}

-- if `ms` lists the Boolean functions of the literals in `ws`, it still does after one more literal is appended to `ws`
-- and its function to `ms`
pub along_more : (s : Site) {t : Table} (ws : List Wire) (ms : List Truth) {ws' : List Wire} {ms' : List Truth}
    (w : Wire) (m : Truth) → AreTruthsAlong s t ws ms → IsTruthAlong s t w m → ws' ≡ ws ++ w ∷ [] →
    ms' ≡ ms ++ m ∷ [] → AreTruthsAlong s t ws' ms'
along_more s {t} ws ms w m h last ew em = rw (ew, em) (record {
  one_each = omega (arith, h.one_each, length-append ws (w ∷ []), length-append ms (m ∷ []));
  each = λ i v truth at_w at_m. elim (at_last ws w i at_w) [
    | inl old_w ↦ elim (at_last ms m i at_m) [
      | inl old_m ↦ h.each i v truth old_w old_m
      | inr new_m ↦ absurd (omega (arith, h.one_each, new_m.1, slice_get_within ws i v old_w))
    ]
    | inr new_w ↦ elim (at_last ms m i at_m) [
      | inl old_m ↦ absurd (omega (arith, h.one_each, new_w.1, slice_get_within ms i truth old_m))
      | inr new_m ↦ rw (new_w.0, new_m.0) last
    ]
  ];
})

-- the literals of a circuit, numbered anew, refer to variables of the circuit
pub wires_within : {c : CircuitData} → IsCircuit c → (literals : List ℕ) → All (IsKnown (definitions c)) literals →
    All (λ w. w.place < length (variables c)) (map (wire_of c) literals)
wires_within {c} is literals known k d lt =
    let within : k < length literals = omega (arith, lt, length-map literals (wire_of c)) in
    rw (get_or-map (wire_of c) literals k 0 d within) (place_known is _ (known k 0 within)).0

-- the functions computed for renumbered literals are the functions of the original literals
pub truths_of_literals : (s : Site) {t : Table} → IsCircuit s.net.now → (literals : List ℕ) (truths : List Truth) →
    All (IsKnown (definitions s.net.now)) literals → AreTruthsAlong s t (map (wire_of s.net.now) literals) truths →
    AreTruthsOf s.net.now s.propositions.now s.latches.now t truths literals
truths_of_literals s is literals truths known h = record {
  one_each = h.one_each ∙ length-map literals (wire_of s.net.now);
  each = λ k literal truth at_m at_l.
      let lt = slice_get_within literals k literal at_l in
      let here : get_or literals k 0 ≡ literal = get_or_from_slice_get literals k literal 0 at_l in
      let w = wire_of s.net.now literal in
      let wires = map (wire_of s.net.now) literals in
      let at_w : slice_get wires k ≡ Some w =
      slice_get-get_or wires k w (omega (arith, lt, length-map literals (wire_of s.net.now)))
      ∙ ap (λ x. Some x) (get_or-map (wire_of s.net.now) literals k 0 w lt ∙ ap (wire_of s.net.now) here) in
      let is_known : IsKnown (definitions s.net.now) literal = rw here at (known k 0 lt) in
      let at = h.each k w truth at_w at_m in
      record {
        is_truth = at.is_truth;
        holds = λ letter values low are. at.holds letter values low are ∙ read_is is values literal is_known;
      };
}

pub wires_of_nexts : (c : CircuitData) (latches : List Latch) →
    map (λ l. wire_of c l.next) latches ≡ map (wire_of c) (map (λ l. l.next) latches)
wires_of_nexts c [] = refl
wires_of_nexts c (l ∷ ls) = ap (λ (ws : List Wire). wire_of c l.next ∷ ws) (wires_of_nexts c ls)

pub nexts_known : {c : CircuitData} → IsCircuit c → All (IsKnown (definitions c)) (map (λ l. l.next) c.latches)
nexts_known {c} is k d lt =
    let within : k < length c.latches = omega (arith, lt, length-map c.latches (λ l. l.next)) in
    rw (get_or-map (λ l. l.next) c.latches k no_latch d within) (next_known is k no_latch within)
