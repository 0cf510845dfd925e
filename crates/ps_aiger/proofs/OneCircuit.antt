-- A machine has at most one circuit: there is only one way to number its variables, and one way to build its gates.
use Rattle.std.proofs.Common.{rules, ◌≡◌, ◌∙◌, ℕ, ◌+◌, ◌*◌, ◌<◌, false, List, ◌++◌, map, length, get_or, None, sym, ap}
use Rattle.std.proofs.Common.{ap₂, arith}
use Rattle.std.specs.List.{All, range_with_len}
use Rattle.std.proofs.Math.Seq.{drop-append_seam, take-append_seam}
use Rattle.std.proofs.lemmas.List.{get_or-map, length-append, length-map, same_lists}
use Rattle.std.proofs.lemmas.List.FromFn.{length-range_with_len}
use Rattle.std.proofs.lemmas.Option.{get_or_from_slice_get, slice_get-get_or}
use Rattle.ps_machine.specs.Behaviours.{Behaviour}
use Rattle.ps_machine.specs.Behaving.{BehavesAs}
use Rattle.ps_circuit.specs.declared.builder.Sides.{Sides}
use Rattle.ps_circuit.specs.declared.parts.Gate.{Gate}
use Rattle.ps_circuit.specs.declared.parts.Latch.{Latch}
use Rattle.ps_circuit.specs.Circuits.{CircuitData, definitions}
use Rattle.ps_circuit.specs.Values.{resets}
use Rattle.ps_aiger.specs.Encoded.{Encodes, IsTidy, symbols_of}
use Rattle.ps_aiger.specs.Wires.{AreGates, IsOutOfLiterals, IsWired, output_wires}
use Rattle.ps_aiger.proofs.SameWires.{next_wires_same, output_wires_same}
use Rattle.ps_aiger.proofs.WireLemmas.{output_given}

-- ## Lists

fronts_same : {X : Type 0} (a b c d : List X) → length a ≡ length c → a ++ b ≡ c ++ d → a ≡ c
fronts_same a b c d many e = grind (arith, take-append_seam a b, take-append_seam c d)

backs_same : {X : Type 0} (a b c d : List X) → length a ≡ length c → a ++ b ≡ c ++ d → b ≡ d
backs_same a b c d many e = grind (arith, drop-append_seam a b, drop-append_seam c d)

all_same : {X : Type 0} (x : X) (xs ys : List X) → All (λ z. z ≡ x) xs → All (λ z. z ≡ x) ys →
    length xs ≡ length ys → xs ≡ ys
all_same x xs ys a b many = same_lists xs ys many (λ k d lt. a k d lt ∙ sym (b k d (omega (arith, lt, many))))

-- ## Latches and gates

latch_same : (l m : Latch) → l.literal ≡ m.literal → l.next ≡ m.next → l.reset ≡ m.reset → l ≡ m
latch_same l m a b c = grind arith

at_place : {X : Type 0} (f : Latch → X) (xs ys : List Latch) (k : ℕ) (d : Latch) → map f xs ≡ map f ys →
    length xs ≡ length ys → k < length xs → f (get_or xs k d) ≡ f (get_or ys k d)
at_place f xs ys k d e many lt = sym (get_or-map f xs k d (f d) lt) ∙ ap (λ l. get_or l k (f d)) e
    ∙ get_or-map f ys k d (f d) (omega (arith, lt, many))

latches_same : (xs ys : List Latch) → length xs ≡ length ys → map (λ l. l.literal) xs ≡ map (λ l. l.literal) ys →
    map (λ l. l.next) xs ≡ map (λ l. l.next) ys → map (λ l. l.reset) xs ≡ map (λ l. l.reset) ys → xs ≡ ys
latches_same xs ys many literals next resets = grind (arith, same_lists, latch_same, at_place)

gates_same : (from : ℕ) (sides : List Sides) (xs ys : List Gate) → AreGates from sides xs →
    AreGates from sides ys → xs ≡ ys
gates_same from sides xs ys a b = same_lists xs ys (a.many ∙ sym b.many) (λ k d lt.
    (let none : Sides = record { first = 0; second = 0 } in
    let at = slice_get-get_or sides k none (omega (arith, lt, a.many)) in
    get_or_from_slice_get xs k _ d (a.each k (get_or sides k none) at) ∙ sym (grind (arith, get_or_from_slice_get))))

-- ## Circuits

circuit_same : (c d : CircuitData) → c.most ≡ d.most → c.inputs ≡ d.inputs → c.latches ≡ d.latches →
    c.outputs ≡ d.outputs → c.gates ≡ d.gates →
    c.input_names ≡ d.input_names → c.latch_names ≡ d.latch_names → c.output_names ≡ d.output_names → c ≡ d
circuit_same c d most inputs latches outputs gates input_names latch_names output_names = grind (arith, input_names)

-- the number of inputs, latches and gates together is the greatest variable
many_defined : (x : CircuitData) → IsTidy x → length x.inputs + length x.latches + length x.gates ≡ x.most
many_defined x numbered = ap₂ (λ n m. length x.inputs + n + m) (sym (length-map x.latches (λ l. l.literal)))
    (sym (length-map x.gates (λ g. g.literal))) ∙ ap (λ n. n + length (map (λ (g : Gate). g.literal) x.gates))
    (sym (length-append x.inputs (map (λ l. l.literal) x.latches))) ∙ sym (grind (arith, length-append))
    ∙ ap length numbered.numbered ∙ length-map (range_with_len 1 x.most) (λ v. 2 * v) ∙ length-range_with_len 1 x.most

module _ (b o : Behaviour) (c d : CircuitData) (some : 0 < b.memories) (same : BehavesAs b o)
    (encodes : Encodes b c) (tidy : IsTidy c) (wired : IsWired b c) (other : Encodes o d) (other_tidy : IsTidy d)
    (other_wired : IsWired o d) where
  latches_many : length c.latches ≡ length d.latches
  latches_many = grind arith

  input_names : c.input_names ≡ d.input_names
  input_names = encodes.input_names ∙ ap₂ symbols_of same.names same.inputs ∙ sym other.input_names

  inputs_many : length c.inputs ≡ length d.inputs
  inputs_many = sym encodes.is_circuit.draft.inputs_named ∙ ap length input_names ∙ other.is_circuit.draft.inputs_named

  next_same : map (λ l. l.next) c.latches ≡ map (λ l. l.next) d.latches
  next_same = grind (arith, next_wires_same, latches_many)

  outputs_same : output_wires b (length c.latches) ≡ output_wires o (length d.latches)
  outputs_same = output_wires_same b o some same (length c.latches) ∙ ap (output_wires o) latches_many

  from_same : length b.inputs + length c.latches + 1 ≡ length o.inputs + length d.latches + 1
  from_same = ap₂ (λ i l. i + l + 1) (ap length same.inputs) latches_many

  same_gates : c.gates ≡ d.gates
  same_gates = search (rules, gates_same, outputs_same, from_same)

  most_same : c.most ≡ d.most
  most_same = grind (arith, many_defined, inputs_many, latches_many, same_gates)

  defined_same : definitions c ≡ definitions d
  defined_same = tidy.numbered ∙ ap (λ n. map (λ v. 2 * v) (range_with_len 1 n)) most_same ∙ sym other_tidy.numbered

  literals_many : (x : CircuitData) → length (x.inputs ++ map (λ l. l.literal) x.latches) ≡ length x.inputs +
      length x.latches
  literals_many x = grind (arith, length-append, length-map)

  given_same : c.inputs ++ map (λ l. l.literal) c.latches ≡ d.inputs ++ map (λ l. l.literal) d.latches
  given_same = fronts_same (c.inputs ++ map (λ l. l.literal) c.latches) (map (λ g. g.literal) c.gates)
      (d.inputs ++ map (λ l. l.literal) d.latches) (map (λ g. g.literal) d.gates)
      (grind (arith, literals_many c, literals_many d)) defined_same

  resets_same : resets c ≡ resets d
  resets_same = all_same false (resets c) (resets d) encodes.resets_are other.resets_are
      (length-map c.latches (λ l. l.reset) ∙ latches_many ∙ sym (length-map d.latches (λ l. l.reset)))

  latches_alike : c.latches ≡ d.latches
  latches_alike = latches_same c.latches d.latches latches_many (backs_same c.inputs (map (λ l. l.literal) c.latches)
      d.inputs (map (λ l. l.literal) d.latches) inputs_many given_same) next_same resets_same

  no_names_same : c.latch_names ≡ d.latch_names
  no_names_same = all_same None c.latch_names d.latch_names encodes.latch_names other.latch_names
      (encodes.is_circuit.draft.latches_named ∙ latches_many ∙ sym other.is_circuit.draft.latches_named)

  pub one_circuit : c ≡ d
  one_circuit = circuit_same c d most_same (grind (arith, fronts_same, inputs_many, given_same)) latches_alike
      (grind (arith, outputs_same)) same_gates input_names no_names_same (grind arith)

-- if a machine has a circuit, the gates that are built for the machine do not need too many variables: the circuit has
-- a literal for each variable
pub not_out : (b o : Behaviour) (c : CircuitData) → BehavesAs b o → Encodes b c → IsTidy c → IsWired b c →
    0 < b.memories → IsOutOfLiterals o → ⊥
not_out b o c same encodes tidy wired some out =
    grind (arith, output_wires_same, output_given, length-map, many_defined)
