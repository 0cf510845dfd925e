-- A circuit whose variables are numbered in order: those of the inputs, those of the latches, and those of the gates of
-- a builder.
use Rattle.std.proofs.Common.{◌≡◌, ◌∙◌, ℕ, zero, suc, ◌+◌, ◌-◌, ◌*◌, ◌<◌, ◌≤◌, List, [], ◌∷◌, rules, map, length}
use Rattle.std.proofs.Common.{get_or, slice_get, Option, Some, None, refl, sym, ap, subst, arith, inl, inr, All}
use Rattle.std.proofs.Common.{replicate}
use Rattle.std.specs.Prelude.{◌≢◌, AllPairs}
use Rattle.std.specs.List.{flat_map}
use Rattle.std.proofs.lemmas.Bool.{cases_eq}
use Rattle.std.proofs.lemmas.List.{length-map, get_or-map, same_lists}
use Rattle.std.proofs.lemmas.Option.{slice_get_within, slice_get-get_or, get_or_from_slice_get}
use Rattle.ps_circuit.specs.declared.builder.Sides.{Sides}
use Rattle.ps_circuit.specs.declared.parts.Gate.{Gate}
use Rattle.ps_circuit.specs.Building.{Drafted, AreSides, IsSoundDraft, variables_of}
use Rattle.ps_circuit.specs.Circuits.{CircuitData, IsDefinition, IsKnown, ReadsGate, definitions}
use Rattle.ps_circuit.specs.Literals.{variable}
use Rattle.ps_aiger.specs.Encoded.{IsTidy, IsTidyGate}
use Rattle.ps_aiger.specs.Wires.{AreGates}
use Rattle.ps_aiger.proofs.RangeLemmas.{even_literals, even-append, length-even, even-at}
use Rattle.ps_circuit.proofs.GatesAndLinks.GateLemmas.{sides_are}
use Rattle.ps_circuit.proofs.GatesAndLinks.LinksLemmas.{each_side}

pub no_gate : Gate
no_gate = record { literal = 0; first = 0; second = 0 }

pub no_sides : Sides
no_sides = record { first = 0; second = 0 }

pub none_at : (n k : ℕ) (e : Option (List ℕ)) → k < n → get_or (replicate n None) k e ≡ None
none_at zero k e lt = absurd (omega arith)
none_at (suc n) zero e lt = refl
none_at (suc n) (suc k) e lt = none_at n k e (omega arith)

-- the circuit has `width` inputs and so many latches, and the gates of d
pub record IsLaidOut (d : Drafted) (width latches : ℕ) (c : CircuitData) : Type 0 where
  pub given : d.given ≡ width + latches
  pub most : c.most ≡ variables_of d
  pub inputs : c.inputs ≡ even_literals 1 width
  pub latch_literals : map (λ l. l.literal) c.latches ≡ even_literals (width + 1) latches
  pub gates : AreGates (d.given + 1) d.gates c.gates

module _ (d : Drafted) (sound : IsSoundDraft d) (width latches : ℕ) (c : CircuitData)
    (laid : IsLaidOut d width latches c) where
  pub many_gates : length c.gates ≡ length d.gates
  many_gates = laid.gates.many

  pub side : ℕ → Sides
  side k = get_or d.gates k no_sides

  pub side_at : (k : ℕ) → k < length d.gates → slice_get d.gates k ≡ Some (side k)
  unfolding side
  side_at k lt = slice_get-get_or d.gates k no_sides lt

  pub are_sides : (k : ℕ) → k < length d.gates → AreSides (d.given + 1 + k) (side k)
  are_sides k lt = sound.sides k (side k) (side_at k lt)

  gate_at : (k : ℕ) → k < length d.gates → slice_get c.gates k ≡ Some
      (record { literal = 2 * (d.given + 1 + k); first = (side k).first; second = (side k).second })
  gate_at k lt = laid.gates.each k (side k) (side_at k lt)

  pub gate_is : (k : ℕ) (e : Gate) → k < length d.gates → get_or c.gates k e ≡ record
      { literal = 2 * (d.given + 1 + k); first = (side k).first; second = (side k).second }
  gate_is k e lt = get_or_from_slice_get c.gates k _ e (gate_at k lt)

  gate_literals : map (λ g. g.literal) c.gates ≡ even_literals (d.given + 1) (length d.gates)
  gate_literals = same_lists _ _ (search (rules, length-map, many_gates, length-even))
      (λ k e lt. (let within : k < length d.gates = search (rules, length-map, many_gates) in
      get_or-map (λ (g : Gate). g.literal) c.gates k no_gate e (subst (λ n. k < n) (sym many_gates) within)
      ∙ ap (λ (g : Gate). g.literal) (gate_is k no_gate within) ∙ sym (grind (arith, even-at))))

  -- ## The circuit

  most_is : c.most ≡ width + latches + length d.gates
  most_is = laid.most ∙ ap (λ n. n + length d.gates) laid.given

  pub definitions_are : definitions c ≡ even_literals 1 c.most
  definitions_are = search (
    rules,
    even_literals,
    even-append,
    laid.inputs,
    laid.latch_literals,
    gate_literals,
    laid.given,
    most_is,
  )

  many_definitions : length (definitions c) ≡ c.most
  many_definitions = ap length definitions_are ∙ length-even 1 c.most

  definition_at : (k e : ℕ) → k < c.most → get_or (definitions c) k e ≡ 2 * (1 + k)
  definition_at k e lt = ap (λ xs. get_or xs k e) definitions_are ∙ even-at 1 c.most k e lt

  within_most : (k : ℕ) → k < length (definitions c) → k < c.most
  within_most k lt = subst (λ n. k < n) many_definitions lt

  half : (k : ℕ) → variable (2 * (1 + k)) ≡ 1 + k
  half k = omega arith

  pub defined : All (IsDefinition c.most) (definitions c)
  defined = λ k e lt. (let within = within_most k lt in
      subst (IsDefinition c.most) (sym (definition_at k e within)) (omega arith, omega arith, omega arith))

  pub once : AllPairs (λ l m. variable l ≢ variable m) (definitions c)
  once = λ i j e lt within. grind (arith, within_most j within, definition_at, half)

  pub known_of : (literal : ℕ) → variable literal ≤ c.most → IsKnown (definitions c) literal
  known_of literal le = elim (cases_eq (variable literal) 0) [
    | inl e ↦ inl e
    | inr ne ↦
        let v = variable literal in
        let k : ℕ = v - 1 in
        let is : 1 + k ≡ v = omega arith in
        let lt : k < c.most = omega arith in
        let within : k < length (definitions c) = subst (λ n. k < n) (sym many_definitions) lt in
        inr (
          k,
          subst (λ n. k < n) (sym (length-map (definitions c) variable)) within,
          get_or-map variable (definitions c) k 0 v within ∙ ap variable (definition_at k 0 lt) ∙ half k ∙ is,
        )
  ]

  side_below : (k : ℕ) → k < length d.gates → (variable (side k).first ≤ c.most) × (variable (side k).second ≤ c.most)
  side_below k lt = grind (arith, are_sides k lt, most_is, laid.given)

  pub sides_known : All (IsKnown (definitions c)) (flat_map (λ g. g.first ∷ g.second ∷ []) c.gates)
  sides_known = each_side (IsKnown (definitions c)) c.gates (λ k e lt.
      (let within : k < length d.gates = subst (λ n. k < n) many_gates lt in
      let b = side_below k within in
      subst (λ (g : Gate). IsKnown (definitions c) g.first × IsKnown (definitions c) g.second)
      (sym (gate_is k e within)) (known_of _ b.0, known_of _ b.1)))

  pub ordered : (i j : ℕ) → ReadsGate c.gates i j → j < i
  ordered i j r = (let i_lt : i < length d.gates = grind (arith, many_gates, slice_get_within) in
      let j_lt : j < length d.gates = subst (λ n. j < n) many_gates (slice_get_within c.gates j r.read r.at_j) in
      let reader : r.reader ≡ record {
        literal = 2 * (d.given + 1 + i);
        first = (side i).first;
        second = (side i).second;
      } = sym (get_or_from_slice_get c.gates i r.reader no_gate r.at_i) ∙ gate_is i no_gate i_lt in
      let read : r.read ≡ record { literal = 2 * (d.given + 1 + j); first = (side j).first; second = (side j).second } =
      sym (get_or_from_slice_get c.gates j r.read no_gate r.at_j) ∙ gate_is j no_gate j_lt in
      let a = are_sides i i_lt in
      let own : variable r.read.literal ≡ d.given + 1 + j = search rules in
      let below : variable (side i).first < d.given + 1 + i = a.below in
      let falls : (side i).second < (side i).first = a.falls in
      elim r.side [
        | inl e ↦ let f : variable (side i).first ≡ d.given + 1 + j = search rules in omega arith
        | inr e ↦ let f : variable (side i).second ≡ d.given + 1 + j = search rules in omega arith
      ])

  pub is_tidy : IsTidy c
  is_tidy = record {
    numbered = definitions_are;
    gates =
        λ k e lt. (let within : k < length d.gates = subst (λ n. k < n) many_gates lt in let a = are_sides k within in
        subst IsTidyGate (sym (gate_is k e within)) (search rules));
    once = λ i j e lt within. (let there : j < length d.gates = subst (λ n. j < n) many_gates within in
        let here : i < length d.gates = omega arith in
        subst (λ (g : Gate). ¬ ((g.first ≡ (get_or c.gates j e).first) × (g.second ≡ (get_or c.gates j e).second)))
        (sym (gate_is i e here)) (subst (λ (h : Gate). ¬ (((side i).first ≡ h.first) × ((side i).second ≡ h.second)))
        (sym (gate_is j e there)) (λ both. (let same : side i ≡ side j = sides_are (side i) (side j) both.0 both.1 in
        let one : i ≡ j = sound.once i j (side i) (side_at i here) (side_at j there ∙ ap (λ s. Some s) (sym same)) in
        absurd (omega arith)))));
  }
