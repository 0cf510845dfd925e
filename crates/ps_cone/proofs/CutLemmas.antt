-- The latches and gates that are needed make a circuit, together with all inputs and outputs.
use Rattle.std.proofs.Common.{◌≡◌, ◌≢◌, ◌⊎◌, ℕ, ◌+◌, ◌<◌, Bool, true, false, List, [], ◌∷◌, ◌++◌, Some, All, AllPairs}
use Rattle.std.proofs.Common.{length, map, ap, sym, ◌∙◌, arith, inl, inr, subst, length-append}
use Rattle.std.specs.List.{filter, flat_map, slice_get}
use Rattle.std.proofs.lemmas.Bool.{cases_lt}
use Rattle.std.proofs.lemmas.List.{length-map}
use Rattle.std.proofs.lemmas.List.Elements.{All-append}
use Rattle.std.proofs.lemmas.List.Kept.{AllPairs-filter}
use Rattle.std.proofs.lemmas.Option.{get_or_from_slice_get, slice_get-get_or, slice_get_within}
use Rattle.ps_circuit.specs.Circuits.{CircuitData, IsCircuit, IsDefinition, IsDraft, IsKnown, IsSymbolName, ReadsGate}
use Rattle.ps_circuit.specs.Circuits.{definitions}
use Rattle.ps_circuit.specs.Literals.{variable}
use Rattle.ps_circuit.specs.declared.parts.Gate.{Gate}
use Rattle.ps_circuit.specs.declared.parts.Latch.{Latch}
use Rattle.ps_circuit.proofs.GatesAndLinks.LinksLemmas.{each_side}
use Rattle.ps_components.specs.Graphs.{last}
use Rattle.ps_simulate.proofs.EvaluationPlans.PlacesLemmas.{next_known, output_known, sides_known}
use Rattle.ps_cone.specs.Cones.{reader_of, readers}
use Rattle.ps_cone.specs.Inner.Cuts.{HasPartsOf, gate_at, keeps_gate, no_gate}
use Rattle.ps_cone.specs.Inner.Needed.{AreNeeded}
use Rattle.ps_cone.specs.Parts.{selected}
use Rattle.ps_cone.proofs.Pairs.{all_at, all_by, at_either, at_left, at_right, contains_at, filter_from, filter_there}
use Rattle.ps_cone.proofs.Pairs.{map_at, map_from, pairs_across, pairs_at, pairs_by, pairs_join, pairs_left}
use Rattle.ps_cone.proofs.Pairs.{pairs_right}
use Rattle.ps_cone.proofs.SelectedLemmas.{All-selected, AllPairs-selected, length-selected, map-selected, selected_from}
use Rattle.ps_cone.proofs.SelectedLemmas.{selected_there}
use Rattle.ps_cone.proofs.SourceLemmas.{definitions_are, slot_of, some_same}

-- ## The readers of a circuit

pub latch_reader : (c : CircuitData) (i : ℕ) (l : Latch) → slice_get c.latches i ≡ Some l →
    slice_get (readers c) i ≡ Some (reader_of l)
latch_reader c i l at = at_left (map reader_of c.latches) c.gates i (reader_of l) (map_at reader_of c.latches i l at)

pub gate_reader : (c : CircuitData) (i : ℕ) (g : Gate) → slice_get c.gates i ≡ Some g →
    slice_get (readers c) (length c.latches + i) ≡ Some g
gate_reader c i g at =
    ap (λ n. slice_get (readers c) (n + i)) (sym (length-map c.latches reader_of))
    ∙ at_right (map reader_of c.latches) c.gates i ∙ at

abbrev IsLatchOrGate : CircuitData → ℕ → Gate → Type 0
IsLatchOrGate c j g = ((l : Latch) × (slice_get c.latches j ≡ Some l) × (reader_of l ≡ g))
    ⊎ ((i : ℕ) × (j ≡ length c.latches + i) × (slice_get c.gates i ≡ Some g))

latch_or_gate : (c : CircuitData) (j : ℕ) (g : Gate) → slice_get (readers c) j ≡ Some g → IsLatchOrGate c j g
latch_or_gate c j g at = elim (at_either (map reader_of c.latches) c.gates j g at) [
  | inl latch ↦ inl (map_from reader_of c.latches j g latch)
  | inr gate ↦ inr (gate.0, omega (arith, gate.1, length-map c.latches reader_of), gate.2)
]

-- a literal that defines a variable is an input, or the literal of a reader
input_or_reader : (c : CircuitData) (m x : ℕ) → slice_get (definitions c) m ≡ Some x →
    (slice_get c.inputs m ≡ Some x) ⊎ ((j : ℕ) × (g : Gate) × (slice_get (readers c) j ≡ Some g) × (g.literal ≡ x))
input_or_reader c m x at =
    elim (at_either c.inputs (map (λ (g : Gate). g.literal) (readers c)) m x
    (ap (λ (l : List ℕ). slice_get l m) (sym (definitions_are c)) ∙ at)) [
      | inl input ↦ inl input
      | inr reader ↦ let g = map_from (λ (g : Gate). g.literal) (readers c) reader.0 x reader.2 in
          inr (reader.0, g.0, g.1, g.2)
    ]

input_defined : (c : CircuitData) (m x : ℕ) → slice_get c.inputs m ≡ Some x → slice_get (definitions c) m ≡ Some x
input_defined c m x at = ap (λ (l : List ℕ). slice_get l m) (definitions_are c)
    ∙ at_left c.inputs (map (λ (g : Gate). g.literal) (readers c)) m x at

reader_defined : (c : CircuitData) (j : ℕ) (g : Gate) → slice_get (readers c) j ≡ Some g →
    slice_get (definitions c) (length c.inputs + j) ≡ Some g.literal
reader_defined c j g at = ap (λ (l : List ℕ). slice_get l (length c.inputs + j)) (definitions_are c)
    ∙ at_right c.inputs (map (λ (g : Gate). g.literal) (readers c)) j
    ∙ map_at (λ (g : Gate). g.literal) (readers c) j g at

known_by : (c : CircuitData) (m x y : ℕ) → slice_get (definitions c) m ≡ Some x → variable x ≡ variable y →
    IsKnown (definitions c) y
known_by c m x y at same = inr (contains_at (map variable (definitions c)) m (variable y)
    (map_at variable (definitions c) m x at ∙ ap (λ v. Some v) same))

-- ## The cut

module _ (c : CircuitData) (is : IsCircuit c) (needed : List Bool) (n : AreNeeded c needed) (cut : CircuitData)
    (h : HasPartsOf c c.outputs needed cut) where
  abbrev pub order : List ℕ
  order = h.gates.order

  pub size : length needed ≡ length c.latches + length c.gates
  size = n.one_each ∙ length-append (map reader_of c.latches) c.gates
      ∙ ap (λ m. m + length c.gates) (length-map c.latches reader_of)

  -- a gate of the cut is a gate of the circuit that is needed
  pub record IsFrom (k : ℕ) (g : Gate) : Type 0 where
    pub place : ℕ
    pub there : slice_get (filter (keeps_gate c needed) order) k ≡ Some place
    pub at : slice_get c.gates place ≡ Some g
    pub flag : slice_get needed (length c.latches + place) ≡ Some true

  pub gate_from : (k : ℕ) (g : Gate) → slice_get cut.gates k ≡ Some g → IsFrom k g
  gate_from k g at =
      let m = map_from (gate_at c) (filter (keeps_gate c needed) order) k g
      (ap (λ (l : List Gate). slice_get l k) (sym h.gates.gates_are) ∙ at) in
      let i = m.0 in
      let f = filter_from (keeps_gate c needed) order k i m.1 in
      let lt : i < length c.gates = h.gates.is_order.within f.0 i f.1 in
      let less : length c.latches + i < length needed = omega (arith, lt, size) in
      record {
        place = i;
        there = m.1;
        at = slice_get-get_or c.gates i no_gate lt ∙ ap (λ (x : Gate). Some x) m.2;
        flag = slice_get-get_or needed (length c.latches + i) false less ∙ ap (λ (b : Bool). Some b) f.2;
      }

  gate_there : (i : ℕ) (g : Gate) → slice_get c.gates i ≡ Some g →
      slice_get needed (length c.latches + i) ≡ Some true → (k : ℕ) × (slice_get cut.gates k ≡ Some g)
  gate_there i g at flag =
      let o = h.gates.is_order.each i (slice_get_within c.gates i g at) in
      let f = filter_there (keeps_gate c needed) order o.0 i o.1
      (get_or_from_slice_get needed (length c.latches + i) true false flag) in (
        f.0,
        ap (λ (l : List Gate). slice_get l f.0) h.gates.gates_are
            ∙ map_at (gate_at c) (filter (keeps_gate c needed) order) f.0 i f.1
            ∙ ap (λ (x : Gate). Some x) (get_or_from_slice_get c.gates i g no_gate at),
      )

  pub latch_from : (k : ℕ) (l : Latch) → slice_get cut.latches k ≡ Some l →
      (i : ℕ) × (slice_get c.latches i ≡ Some l) × (slice_get needed i ≡ Some true)
  latch_from k l at =
      selected_from needed c.latches k l (ap (λ (xs : List Latch). slice_get xs k) (sym h.latches) ∙ at)

  reader_from : (k : ℕ) (g : Gate) → slice_get (readers cut) k ≡ Some g →
      (j : ℕ) × (slice_get (readers c) j ≡ Some g) × (slice_get needed j ≡ Some true)
  reader_from k g at = elim (latch_or_gate cut k g at) [
    | inl latch ↦
        let r = latch_from k latch.0 latch.1 in
        (r.0, latch_reader c r.0 latch.0 r.1 ∙ ap (λ (x : Gate). Some x) latch.2, r.2)
    | inr gate ↦
        let r = gate_from gate.0 g gate.2 in
        (length c.latches + r.place, gate_reader c r.place g r.at, r.flag)
  ]

  reader_there : (j : ℕ) (g : Gate) → slice_get (readers c) j ≡ Some g → slice_get needed j ≡ Some true →
      (k : ℕ) × (slice_get (readers cut) k ≡ Some g)
  reader_there j g at flag = elim (latch_or_gate c j g at) [
    | inl latch ↦
        let s = selected_there needed c.latches j latch.0 latch.1 flag in
        let there : slice_get cut.latches s.0 ≡ Some latch.0 =
        ap (λ (xs : List Latch). slice_get xs s.0) h.latches ∙ s.1 in
        (s.0, latch_reader cut s.0 latch.0 there ∙ ap (λ (x : Gate). Some x) latch.2)
    | inr gate ↦
        let s = gate_there gate.0 g gate.2 (ap (slice_get needed) (sym gate.1) ∙ flag) in
        (length cut.latches + s.0, gate_reader cut s.0 g s.1)
  ]

  -- ## Definitions

  defined : All (IsDefinition cut.most) (definitions cut)
  defined = all_by (IsDefinition cut.most) (definitions cut) (λ k x at.
      subst (λ m. IsDefinition m x) (sym h.most) (elim (input_or_reader cut k x at) [
        | inl input ↦ all_at (IsDefinition c.most) (definitions c) k x is.draft.defined
            (input_defined c k x (ap (λ (l : List ℕ). slice_get l k) (sym h.inputs) ∙ input))
        | inr reader ↦
            let r = reader_from reader.0 reader.1 reader.2 in
            all_at (IsDefinition c.most) (definitions c) (length c.inputs + r.0) x is.draft.defined
            (reader_defined c r.0 reader.1 r.1 ∙ ap (λ y. Some y) reader.3)
      ]))

  abbrev Differ : ℕ → ℕ → Type 0
  Differ x y = variable x ≢ variable y

  abbrev latch_literals : List ℕ
  latch_literals = map (λ (l : Latch). l.literal) c.latches

  abbrev gate_literals : List ℕ
  gate_literals = map (λ (g : Gate). g.literal) c.gates

  front_once : AllPairs Differ (c.inputs ++ latch_literals)
  front_once = pairs_left Differ (c.inputs ++ latch_literals) gate_literals is.draft.once

  cut_front : AllPairs Differ (c.inputs ++ selected needed latch_literals)
  cut_front = pairs_join Differ c.inputs (selected needed latch_literals)
      (pairs_left Differ c.inputs latch_literals front_once)
      (AllPairs-selected Differ needed latch_literals (pairs_right Differ c.inputs latch_literals front_once))
      (λ i j x y at_i at_j.
      let r = selected_from needed latch_literals j y at_j in
      pairs_across Differ c.inputs latch_literals i r.0 x y front_once at_i r.1)

  -- no two of the chosen places are equal
  pub places_differ : AllPairs (λ a b. a ≢ b) (filter (keeps_gate c needed) order)
  places_differ = AllPairs-filter (λ a b. a ≢ b) (keeps_gate c needed) order
      (pairs_by (λ a b. a ≢ b) order (λ i j a b less at_i at_j same.
      let e = h.gates.is_order.once i j a at_i (at_j ∙ ap (λ z. Some z) (sym same)) in
      omega (arith, less, e)))

  gates_differ : (i j : ℕ) (g k : Gate) → slice_get c.gates i ≡ Some g → slice_get c.gates j ≡ Some k → i ≢ j →
      Differ g.literal k.literal
  gates_differ i j g k at_i at_j ne =
      let all : AllPairs Differ gate_literals =
      pairs_right Differ (c.inputs ++ latch_literals) gate_literals is.draft.once in
      let literal = λ (g : Gate). g.literal in
      let one = map_at literal c.gates i g at_i in
      let other = map_at literal c.gates j k at_j in
      elim (cases_lt i j) [
        | inl less ↦ pairs_at Differ gate_literals i j g.literal k.literal all less one other
        | inr above ↦ λ e.
            pairs_at Differ gate_literals j i k.literal g.literal all (omega (arith, above, ne)) other one (sym e)
      ]

  cut_gates : AllPairs Differ (map (λ (g : Gate). g.literal) cut.gates)
  cut_gates = pairs_by Differ (map (λ (g : Gate). g.literal) cut.gates) (λ i j x y less at_i at_j.
      let one = map_from (λ (g : Gate). g.literal) cut.gates i x at_i in
      let other = map_from (λ (g : Gate). g.literal) cut.gates j y at_j in
      let a = gate_from i one.0 one.1 in
      let b = gate_from j other.0 other.1 in
      let ne = pairs_at (λ a b. a ≢ b) (filter (keeps_gate c needed) order) i j a.place b.place places_differ less
      a.there b.there in
      let differ = gates_differ a.place b.place one.0 other.0 a.at b.at ne in
      λ e. differ (ap variable one.2 ∙ e ∙ ap variable (sym other.2)))

  front_is : cut.inputs ++ map (λ (l : Latch). l.literal) cut.latches ≡ c.inputs ++ selected needed latch_literals
  front_is = ap (λ (l : List ℕ). l ++ map (λ (l : Latch). l.literal) cut.latches) h.inputs
      ∙ ap (λ (l : List ℕ). c.inputs ++ l) (ap (map (λ (l : Latch). l.literal)) h.latches
      ∙ map-selected (λ (l : Latch). l.literal) needed c.latches)

  once : AllPairs Differ (definitions cut)
  once = pairs_join Differ (cut.inputs ++ map (λ (l : Latch). l.literal) cut.latches)
      (map (λ (g : Gate). g.literal) cut.gates) (subst (λ xs. AllPairs Differ xs) (sym front_is) cut_front) cut_gates
      (λ i j x y at_i at_j.
      let other = map_from (λ (g : Gate). g.literal) cut.gates j y at_j in
      let b = gate_from j other.0 other.1 in
      let gate : slice_get gate_literals b.place ≡ Some y =
      map_at (λ (g : Gate). g.literal) c.gates b.place other.0 b.at ∙ ap (λ z. Some z) other.2 in
      let across = λ (m : ℕ) (at : slice_get (c.inputs ++ latch_literals) m ≡ Some x).
      let differ : Differ x y =
      pairs_across Differ (c.inputs ++ latch_literals) gate_literals m b.place x y is.draft.once at gate in differ in
      elim (at_either c.inputs (selected needed latch_literals) i x
      (ap (λ (l : List ℕ). slice_get l i) (sym front_is) ∙ at_i)) [
        | inl input ↦ across i (at_left c.inputs latch_literals i x input)
        | inr latch ↦
            let r = selected_from needed latch_literals latch.0 x latch.2 in
            across (length c.inputs + r.0) (at_right c.inputs latch_literals r.0 ∙ r.1)
      ])

  -- ## Readings

  known_in_cut : (x : ℕ) → IsKnown (definitions c) x → ((j : ℕ) (g : Gate) → slice_get (readers c) j ≡ Some g →
      variable x ≡ variable g.literal → slice_get needed j ≡ Some true) → IsKnown (definitions cut) x
  known_in_cut x (inl constant) marked = inl constant
  known_in_cut x (inr there) marked =
      let d = map_from variable (definitions c) there.0 (variable x)
      (slot_of (map variable (definitions c)) (variable x) there) in
      elim (input_or_reader c there.0 d.0 d.1) [
        | inl input ↦ known_by cut there.0 d.0 x
            (input_defined cut there.0 d.0 (ap (λ (l : List ℕ). slice_get l there.0) h.inputs ∙ input)) d.2
        | inr reader ↦
            let same : variable reader.1.literal ≡ variable x = ap variable reader.3 ∙ d.2 in
            let k = reader_there reader.0 reader.1 reader.2 (marked reader.0 reader.1 reader.2 (sym same)) in
            known_by cut (length cut.inputs + k.0) reader.1.literal x (reader_defined cut k.0 reader.1 k.1) same
      ]

  nexts : All (IsKnown (definitions cut)) (map (λ l. l.next) cut.latches)
  nexts = all_by (IsKnown (definitions cut)) (map (λ l. l.next) cut.latches) (λ k x at.
      let l = map_from (λ (l : Latch). l.next) cut.latches k x at in
      let r = latch_from k l.0 l.1 in
      let known : IsKnown (definitions c) l.0.next =
      subst (λ (y : Latch). IsKnown (definitions c) y.next) (get_or_from_slice_get c.latches r.0 l.0 l.0 r.1)
      (next_known is r.0 l.0 (slice_get_within c.latches r.0 l.0 r.1)) in
      subst (IsKnown (definitions cut)) l.2 (known_in_cut l.0.next known (λ j g there e.
      n.closed r.0 j (reader_of l.0) g r.2 (latch_reader c r.0 l.0 r.1) there (inl e))))

  outputs : All (IsKnown (definitions cut)) cut.outputs
  outputs = subst (λ xs. All (IsKnown (definitions cut)) xs) (sym h.outputs)
      (all_by (IsKnown (definitions cut)) c.outputs (λ k x at.
      let known : IsKnown (definitions c) x =
      subst (IsKnown (definitions c)) (get_or_from_slice_get c.outputs k x x at)
      (output_known is k x (slice_get_within c.outputs k x at)) in
      known_in_cut x known (λ j g there e. n.outputs x j g (contains_at c.outputs k x at) there (sym e))))

  sides : All (IsKnown (definitions cut)) (flat_map (λ g. g.first ∷ g.second ∷ []) cut.gates)
  sides = each_side (IsKnown (definitions cut)) cut.gates
      (all_by (λ (g : Gate). IsKnown (definitions cut) g.first × IsKnown (definitions cut) g.second) cut.gates
      (λ k g at.
      let r = gate_from k g at in
      let known : IsKnown (definitions c) g.first × IsKnown (definitions c) g.second =
      subst (λ (y : Gate). IsKnown (definitions c) y.first × IsKnown (definitions c) y.second)
      (get_or_from_slice_get c.gates r.place g g r.at)
      (sides_known is r.place g (slice_get_within c.gates r.place g r.at)) in (
        known_in_cut g.first known.0 (λ j x there e. n.closed (length c.latches + r.place) j g x r.flag
            (gate_reader c r.place g r.at) there (inl e)),
        known_in_cut g.second known.1 (λ j x there e. n.closed (length c.latches + r.place) j g x r.flag
            (gate_reader c r.place g r.at) there (inr e)),
      )))

  pub is_draft : IsDraft cut
  is_draft = record {
    limit = subst (λ m. m < 2147483648) (sym h.most) is.draft.limit;
    defined = defined;
    once = once;
    known = All-append (IsKnown (definitions cut)) (map (λ l. l.next) cut.latches ++ cut.outputs)
        (flat_map (λ g. g.first ∷ g.second ∷ []) cut.gates)
        (All-append (IsKnown (definitions cut)) (map (λ l. l.next) cut.latches) cut.outputs nexts outputs) sides;
    inputs_named = ap length h.input_names ∙ is.draft.inputs_named ∙ sym (ap length h.inputs);
    latches_named = ap length h.latch_names
        ∙ length-selected needed c.latch_names c.latches is.draft.latches_named ∙ sym (ap length h.latches);
    outputs_named = ap length h.output_names ∙ is.draft.outputs_named ∙ sym (ap length h.outputs);
    input_names = subst (λ xs. All IsSymbolName xs) (sym h.input_names) is.draft.input_names;
    latch_names = subst (λ xs. All IsSymbolName xs) (sym h.latch_names)
        (All-selected IsSymbolName needed c.latch_names is.draft.latch_names);
    output_names = subst (λ xs. All IsSymbolName xs) (sym h.output_names) is.draft.output_names;
  }

  -- ## The order of the gates

  -- of the chosen places, none is that of a gate that reads a later one
  places_ordered : AllPairs (λ a b. ReadsGate c.gates a b → ⊥) (filter (keeps_gate c needed) order)
  places_ordered = AllPairs-filter (λ a b. ReadsGate c.gates a b → ⊥) (keeps_gate c needed) order
      (pairs_by (λ a b. ReadsGate c.gates a b → ⊥) order (λ i j a b less at_i at_j reads.
      omega (arith, less, h.gates.is_order.behind i j a b at_i at_j reads)))

  pub ordered : (i j : ℕ) → ReadsGate cut.gates i j → j < i
  ordered i j r =
      let a = gate_from i r.reader r.at_i in
      let b = gate_from j r.read r.at_j in
      let reads : ReadsGate c.gates a.place b.place =
      record { reader = r.reader; read = r.read; at_i = a.at; at_j = b.at; side = r.side } in
      elim (cases_lt j i) [
        | inl less ↦ less
        | inr above ↦ elim (cases_lt i j) [
          | inl later ↦ absurd (pairs_at (λ a b. ReadsGate c.gates a b → ⊥) (filter (keeps_gate c needed) order) i j
              a.place b.place places_ordered later a.there b.there reads)
          | inr same ↦
              let e : i ≡ j = omega (arith, above, same) in
              let place : a.place ≡ b.place = some_same a.place b.place
              (sym a.there ∙ ap (slice_get (filter (keeps_gate c needed) order)) e ∙ b.there) in
              absurd (is.acyclic b.place (last (subst (λ m. ReadsGate c.gates m b.place) place reads)))
        ]
      ]
