-- Each step of a machine's circuit is a step of the machine.
use Rattle.std.proofs.Common.{rules, ◌≡◌, ◌∙◌, ℕ, ◌+◌, ◌*◌, ◌^◌, ◌<◌, ◌≤◌, Bool, false, List, map, length, get_or, sym}
use Rattle.std.proofs.Common.{refl, ap, ap₂, subst, arith, All, IsTrue}
use Rattle.std.specs.List.{range_with_len}
use Rattle.std.proofs.lemmas.List.{length-map, get_or-map, get_or_default, same_lists, length-replicate}
use Rattle.std.proofs.lemmas.List.Elements.{All-map}
use Rattle.std.proofs.lemmas.List.FromFn.{length-map-range_with_len, get_or-map-range_with_len}
use Rattle.std.proofs.lemmas.Option.{slice_get_within, get_or_from_slice_get}
use Rattle.ps_circuit.specs.declared.parts.Gate.{Gate}
use Rattle.ps_circuit.specs.declared.parts.Latch.{Latch}
use Rattle.ps_machine.specs.Behaviours.{Behaviour, IsMachine}
use Rattle.ps_circuit.specs.Building.{Drafted, MeetsEquations, bit}
use Rattle.ps_circuit.specs.Circuits.{CircuitData, IsCircuit}
use Rattle.ps_circuit.specs.Values.{MeetsGate, Steps, bit_of, value_of, resets}
use Rattle.ps_aiger.specs.Inner.Built.{IsBuilt}
use Rattle.ps_aiger.specs.Encoded.{Encodes, number_of_bits, memory_of_code, memory_of, letter_over, bits_over}
use Rattle.ps_aiger.specs.Timing.{SeesNoInput}
use Rattle.ps_aiger.specs.Wires.{StepBit, next_bit, output_bit}
use Rattle.ps_circuit.proofs.GatesAndLinks.GateLemmas.{bit-plain}
use Rattle.ps_aiger.proofs.CircuitShape.{no_latch}
use Rattle.ps_aiger.proofs.CircuitLayout.{no_gate, none_at}
use Rattle.ps_aiger.proofs.LetterLemmas.{number_is, number_of_letter}
use Rattle.ps_aiger.proofs.RangeLemmas.{length-even, even-at}
use Rattle.ps_aiger.proofs.SameWires.{memory_within}
use Rattle.ps_aiger.proofs.WiredMade.{AreBits, IsBit, code_read, letter_read}

module _ (m : Behaviour) (machine : IsMachine m) (d : Drafted) (latches : ℕ) (next outputs : List ℕ) (c : CircuitData)
    (built : IsBuilt m d next outputs c) (many : length next ≡ latches) (room : m.memories ≤ 2 ^ latches)
    (next_bits : (j : ℕ) → j < latches → IsBit m latches (next_bit m j) d (get_or next j 0))
    (output_bits : AreBits m latches (output_bit m) m.outputs d outputs)
  where
    latch_is : (k : ℕ) → k < latches → get_or c.latches k no_latch ≡ record
        { literal = 2 * (length m.inputs + 1 + k); next = get_or next k 0; reset = false }
    latch_is k lt = grind (arith, get_or_from_slice_get, no_latch)

    many_latches : length c.latches ≡ latches
    many_latches = built.latches.many ∙ many

    module _ (states inputs played behind : List Bool) (s : Steps c states inputs played behind) where
      v : ℕ → Bool
      v = value_of s.values

      many_inputs : length inputs ≡ length m.inputs
      many_inputs = grind (arith, length-map, length-even)

      many_states : length states ≡ latches
      many_states = grind (arith, length-map, many_latches)

      input_bit : (k : ℕ) → k < length m.inputs → get_or inputs k false ≡ v (1 + k)
      unfolding v
      input_bit k lt = (let within : k < length c.inputs = grind (arith, length-even) in
          sym (ap (λ bits. get_or bits k false) s.are_values.inputs_are)
          ∙ get_or-map (bit_of s.values) c.inputs k 0 false within
          ∙ ap (bit_of s.values) (ap (λ xs. get_or xs k 0) built.inputs ∙ even-at 1 (length m.inputs) k 0 lt)
          ∙ bit-plain (value_of s.values) (1 + k))

      state_bit : (k : ℕ) → k < latches → get_or states k false ≡ v (length m.inputs + 1 + k)
      unfolding v
      state_bit k lt =
          sym (ap (λ bits. get_or bits k false) s.are_values.latches_are)
          ∙ get_or-map (λ (l : Latch). bit_of s.values l.literal) c.latches k no_latch false
          (subst (λ n. k < n) (sym many_latches) lt)
          ∙ ap (λ (l : Latch). bit_of s.values l.literal) (latch_is k lt)
          ∙ bit-plain (value_of s.values) (length m.inputs + 1 + k)

      meets : MeetsEquations d v
      unfolding v
      meets = record {
        constant = s.are_values.constant;
        each = λ k t e. (let at = built.gates.each k t e in
            let meets_gate = subst (λ (g : Gate). MeetsGate s.values g) (get_or_from_slice_get c.gates k _ no_gate at)
            (s.are_values.gates_are k no_gate (slice_get_within c.gates k _ at)) in
            sym (bit-plain (value_of s.values) (d.given + 1 + k)) ∙ meets_gate);
      }

      letter : letter_read m v ≡ letter_over m.inputs inputs
      letter = ap (letter_over m.inputs) (same_lists (map v (range_with_len 1 (length m.inputs))) inputs
          (length-map-range_with_len v 1 (length m.inputs) ∙ sym many_inputs) (λ k e lt.
          (let within : k < length m.inputs = subst (λ n. k < n) (length-map-range_with_len v 1 (length m.inputs)) lt in
          get_or-map-range_with_len v 1 (length m.inputs) k (1 + k) e within refl ∙ sym (input_bit k within)
          ∙ get_or_default inputs k false e (subst (λ n. k < n) (sym many_inputs) within))))

      memory : memory_of_code m (0 + code_read m latches v) ≡ memory_of m states
      memory = grind (arith, v, number_of_letter, state_bit, many_states)

      literal_bit : (f : StepBit) (literal : ℕ) → IsBit m latches f d literal →
          bit v literal ≡ f (memory_of m states) (letter_over m.inputs inputs)
      literal_bit f literal l = l.is v meets ∙ ap₂ f memory letter

      played_are : played ≡ bits_over m.outputs (m.plays (memory_of m states) (letter_over m.inputs inputs))
      unfolding v
      played_are = s.outputs_are ∙ ap (map (bit_of s.values)) built.output_literals ∙ same_lists _ _
          (grind (arith, length-map)) (λ k e lt. (let within : k < length outputs = grind (arith, length-map) in
          let there : k < length m.outputs = subst (λ n. k < n) output_bits.many within in
          get_or-map (bit_of s.values) outputs k 0 e within
          ∙ literal_bit (output_bit m (get_or m.outputs k 0)) (get_or outputs k 0) (output_bits.each k there)
          ∙ sym (search (rules, get_or-map))))

      many_behind : length behind ≡ latches
      many_behind = ap length s.next_are ∙ length-map c.latches (λ l. bit_of s.values l.next) ∙ many_latches

      behind_is : number_of_bits behind ≡ m.next (memory_of m states) (letter_over m.inputs inputs)
      unfolding v
      behind_is =
          let below = machine.next_within (memory_of m states) (letter_over m.inputs inputs)
          (memory_within m (number_of_bits states) machine.some) in
          number_is behind _ (grind (arith, many_behind))
          (λ j lt. (let within : j < latches = subst (λ n. j < n) many_behind lt in
          ap (λ bits. get_or bits j false) s.next_are ∙ get_or-map (λ (l : Latch). bit_of s.values l.next) c.latches j
          no_latch false (subst (λ n. j < n) (sym many_latches) within) ∙ ap (λ (l : Latch). bit_of s.values l.next)
          (latch_is j within) ∙ literal_bit (next_bit m j) (get_or next j 0) (next_bits j within)))

    resets_are : All (λ bit. bit ≡ false) (resets c)
    resets_are = All-map (λ bit. bit ≡ false) (λ (l : Latch). l.reset) c.latches (λ k e lt.
        grind (arith, get_or_from_slice_get c.latches k _ e (built.latches.each k (grind arith))))

    pub encodes : IsCircuit c → ((n : ℕ) → m.memories ≤ 2 ^ n → latches ≤ n) → Encodes m c
    encodes is least = record {
      is_circuit = is;
      input_names = built.input_names;
      output_names = built.output_names;
      latch_names = grind (arith, none_at, length-replicate);
      resets_are = resets_are;
      room = subst (λ n. m.memories ≤ 2 ^ n) (sym many_latches) room;
      needed = λ n h. subst (λ k. k ≤ n) (sym many_latches) (least n h);
      steps = search (rules, played_are, behind_is);
    }

-- if the machine's player moves first, the circuit's outputs for given latch values are the same for all inputs
pub sees : (m : Behaviour) (c : CircuitData) → IsMachine m → Encodes m c → IsTrue m.is_first → SeesNoInput c
sees m c machine encodes first states inputs others played other_played behind other_behind s t = (encodes.steps states
    inputs played behind s).outputs_are ∙ ap (λ y. bits_over m.outputs y) (machine.blind first (memory_of m states)
    (letter_over m.inputs inputs) (letter_over m.inputs others) (memory_within m (number_of_bits states) machine.some))
    ∙ sym (encodes.steps states others other_played other_behind t).outputs_are
