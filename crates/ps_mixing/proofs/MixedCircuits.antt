-- The circuit of a machine is the circuit of the mixed machine, and if it needs too many variables, so does the mixed
-- machine's.
use Rattle.std.specs.Prelude.{◌≡◌, ℕ, zero, suc, ◌+◌, ◌^◌, ◌<◌, Bool, cond, nat_eq, List, [], ◌∷◌}
use Rattle.std.specs.Prelude.{length, map, Option, Some, slice_index_or}
use Rattle.std.specs.List.{AllPairs, range_with_len}
use Rattle.std.proofs.Common.{refl, sym, ap, ap₂, subst, ◌∙◌, inl, inr, arith, rules}
use Rattle.std.proofs.Math.Path.{fun_ext}
use Rattle.std.proofs.lemmas.Bool.{cases_eq, eq-eqb, ne_eqb}
use Rattle.std.proofs.lemmas.List.{length-map}
use Rattle.std.proofs.lemmas.Simd.{map-map}
use Rattle.ps_label.specs.Truth.{is_in}
use Rattle.ps_aiger.specs.Encoded.{Encodes, StepsAs, bits_over, letter_over, memory_of, memory_of_code, symbols_of}
use Rattle.ps_aiger.specs.Wires.{AreGates, IsOutOfLiterals, IsWired, StepBit, Wired, code_made, next_bit, next_wires}
use Rattle.ps_aiger.specs.Wires.{output_bit, output_wires, over_variables, wired}
use Rattle.ps_aiger.proofs.LetterLemmas.{bit_for, letter_bit}
use Rattle.ps_circuit.specs.Building.{Drafted, HasTooMany}
use Rattle.ps_circuit.specs.declared.builder.Sides.{Sides}
use Rattle.ps_circuit.specs.Circuits.{CircuitData}
use Rattle.ps_machine.specs.Behaviours.{Behaviour}
use Rattle.ps_mixing.specs.MixedBoards.{mixed_machine}
use Rattle.ps_mixing.specs.Mixings.{Mixing, IsMixing, moved}
use Rattle.ps_mixing.proofs.MixedMachineParts.{name_at}
use Rattle.ps_mixing.proofs.MovedPropositions.MovedLetters.{from_beyond, moved_back, moved_bit, renamed_bit, same_bits}
use Rattle.ps_mixing.proofs.MovedPropositions.MovedLists.{test_moved}

sym_test : (a b : ℕ) → nat_eq a b ≡ nat_eq b a
sym_test a b = elim (cases_eq a b) [
  | inl same ↦ eq-eqb a b same ∙ sym (eq-eqb b a (sym same))
  | inr differ ↦ ne_eqb a b differ ∙ sym (ne_eqb b a (λ same. differ (sym same)))
]

module _ {n : ℕ} {is_first : ℕ → Bool} {mixing : Mixing} (is : IsMixing n is_first mixing) where
  abbrev mv : ℕ → ℕ
  mv = moved n mixing.from

  abbrev bk : ℕ → ℕ
  bk = moved n mixing.to

  -- ## Letters by their bits

  bits_moved : (ps : List ℕ) (x : ℕ) → bits_over (map mixing.to ps) (mv x) ≡ bits_over ps x
  bits_moved ps x = map-map (λ p. is_in p (mv x)) mixing.to ps ∙
      ap (λ (f : ℕ → Bool). map f ps) (fun_ext (λ p. renamed_bit is x p))

  bit_for_moved : (ps : List ℕ) (bits : List Bool) (q : ℕ) →
      bit_for (map mixing.to ps) bits q ≡ bit_for ps bits (mixing.from q)
  bit_for_moved [] bits q = refl
  bit_for_moved (p ∷ ps) [] q = refl
  bit_for_moved (p ∷ ps) (b ∷ bits) q =
      ap (λ (t : Bool). cond t b (bit_for (map mixing.to ps) bits q)) (turned p q) ∙
      ap (λ (t : Bool). cond (nat_eq p (mixing.from q)) b t) (bit_for_moved ps bits q)
    where
      turned : (p q : ℕ) → nat_eq (mixing.to p) q ≡ nat_eq p (mixing.from q)
      turned p q = sym_test (mixing.to p) q ∙ test_moved is q p ∙ sym_test (mixing.from q) p

  letter_moved : (ps : List ℕ) (bits : List Bool) → AllPairs (λ p q. p < q) ps →
      AllPairs (λ p q. p < q) (map mixing.to ps) → bk (letter_over (map mixing.to ps) bits) ≡ letter_over ps bits
  letter_moved ps bits rise moved_rise = ap bk (same_bits same) ∙ moved_back is (letter_over ps bits)
    where
      same : (q : ℕ) → is_in q (letter_over (map mixing.to ps) bits) ≡ is_in q (mv (letter_over ps bits))
      same q = letter_bit 0 (map mixing.to ps) bits q (record { from = λ k less. omega arith; rise = moved_rise }) ∙
          bit_for_moved ps bits q ∙
          sym (moved_bit n mixing.from (letter_over ps bits) q (λ le. from_beyond is q le) ∙
          letter_bit 0 ps bits (mixing.from q) (record { from = λ k less. omega arith; rise = rise }))

  module _ (m : Behaviour) (named : length m.names ≡ n) (inputs_rise : AllPairs (λ p q. p < q) m.inputs)
      (moved_rise : AllPairs (λ p q. p < q) (map mixing.to m.inputs)) where
    abbrev other : Behaviour
    other = mixed_machine n mixing m

    input_moved : (bits : List Bool) → bk (letter_over other.inputs bits) ≡ letter_over m.inputs bits
    input_moved bits = letter_moved m.inputs bits inputs_rise moved_rise

    symbols_moved : (ps : List ℕ) → symbols_of other.names (map mixing.to ps) ≡ symbols_of m.names ps
    symbols_moved ps = map-map (λ p. Some (slice_index_or other.names p [])) mixing.to ps ∙
        ap (λ (f : ℕ → Option (List ℕ)). map f ps)
        (fun_ext (λ p. ap (λ (name : List ℕ). Some name) (name_at is m.names named p)))

    steps_moved : (latches inputs outputs next : List Bool) → StepsAs m latches inputs outputs next →
        StepsAs other latches inputs outputs next
    steps_moved latches inputs outputs next steps = record {
      outputs_are = steps.outputs_are ∙ sym (
          bits_moved m.outputs (m.plays (memory_of m latches) (bk (letter_over other.inputs inputs))) ∙
          ap (λ (x : ℕ). bits_over m.outputs (m.plays (memory_of m latches) x)) (input_moved inputs)
          );
      next_is = steps.next_is ∙ sym (ap (m.next (memory_of m latches)) (input_moved inputs));
    }

    pub encodes_moved : (circuit : CircuitData) → Encodes m circuit → Encodes other circuit
    encodes_moved circuit encodes = record {
      is_circuit = encodes.is_circuit;
      input_names = encodes.input_names ∙ sym (symbols_moved m.inputs);
      output_names = encodes.output_names ∙ sym (symbols_moved m.outputs);
      latch_names = encodes.latch_names;
      resets_are = encodes.resets_are;
      room = encodes.room;
      needed = encodes.needed;
      steps = λ latches inputs outputs next steps. steps_moved latches inputs outputs next
          (encodes.steps latches inputs outputs next steps);
    }

    -- ## Wires

    abbrev AgreeAt : StepBit → StepBit → Type 0
    AgreeAt f g = (memory : ℕ) (bits : List Bool) →
        f memory (letter_over other.inputs bits) ≡ g memory (letter_over m.inputs bits)

    code_same : (f g : StepBit) (latches code : ℕ) (d : Drafted) → AgreeAt f g →
        code_made other f latches code d ≡ code_made m g latches code d
    unfolding code_made
    code_same f g zero code d agree = ap₂ (λ (k : ℕ) (h : List Bool → Bool). over_variables (range_with_len 1 k) h d)
        (length-map m.inputs mixing.to) (fun_ext (λ bits. agree (memory_of_code m code) bits))
    code_same f g (suc latch) code d agree = grind (
      arith,
      length-map m.inputs mixing.to,
      code_same f g latch (code + 2 ^ latch) d agree,
      code_same f g latch code (code_made m g latch (code + 2 ^ latch) d).draft agree,
    )

    wired_same : (f g : ℕ → StepBit) (latches : ℕ) (ps : List ℕ) (d : Drafted) → ((p : ℕ) → AgreeAt (f p) (g p)) →
        wired other latches (map f ps) d ≡ wired m latches (map g ps) d
    unfolding wired
    wired_same f g latches [] d agree = refl
    wired_same f g latches (p ∷ ps) d agree = search (
      rules,
      code_same,
      wired_same f g latches ps (code_made m (g p) latches 0 d).draft agree,
    )

    next_agree : (j : ℕ) → AgreeAt (next_bit other j) (next_bit m j)
    next_agree j memory bits = ap (λ (x : ℕ). is_in j (m.next memory x)) (input_moved bits)

    output_agree : (p : ℕ) → AgreeAt (output_bit other (mixing.to p)) (output_bit m p)
    output_agree p memory bits = renamed_bit is (m.plays memory (bk (letter_over other.inputs bits))) p ∙
        ap (λ (x : ℕ). is_in p (m.plays memory x)) (input_moved bits)

    next_wires_same : (latches : ℕ) → next_wires other latches ≡ next_wires m latches
    next_wires_same latches =
        ap (λ (k : ℕ). wired other latches (map (next_bit other) (range_with_len 0 latches))
        (record { given = k + latches; gates = [] })) (length-map m.inputs mixing.to) ∙
        wired_same (next_bit other) (next_bit m) latches (range_with_len 0 latches)
        (record { given = length m.inputs + latches; gates = [] }) next_agree

    output_wires_same : (latches : ℕ) → output_wires other latches ≡ output_wires m latches
    output_wires_same latches =
        ap (λ (d : Drafted). wired other latches (map (output_bit other) other.outputs) d)
        (ap (λ (w : Wired). w.draft) (next_wires_same latches)) ∙
        ap (λ (fs : List StepBit). wired other latches fs (next_wires m latches).draft)
        (map-map (output_bit other) mixing.to m.outputs) ∙
        wired_same (λ p. output_bit other (mixing.to p)) (output_bit m) latches m.outputs (next_wires m latches).draft
        output_agree

    pub wired_moved : (circuit : CircuitData) → IsWired m circuit → IsWired other circuit
    wired_moved circuit wired = record {
      next = wired.next ∙ sym (ap (λ (w : Wired). w.literals) (next_wires_same (length circuit.latches)));
      outputs = wired.outputs ∙ sym (ap (λ (w : Wired). w.literals) (output_wires_same (length circuit.latches)));
      gates = subst (λ (sides : List Sides). AreGates (length other.inputs + length circuit.latches + 1) sides
          circuit.gates) (sym (ap (λ (w : Wired). w.draft.gates) (output_wires_same (length circuit.latches))))
          (subst (λ (k : ℕ). AreGates (k + length circuit.latches + 1)
          (output_wires m (length circuit.latches)).draft.gates circuit.gates)
          (sym (length-map m.inputs mixing.to)) wired.gates);
    }

    pub out_of_literals_moved : IsOutOfLiterals m → IsOutOfLiterals other
    out_of_literals_moved out = record {
      latches = out.latches;
      room = out.room;
      needed = out.needed;
      above = subst HasTooMany (sym (ap (λ (w : Wired). w.draft) (output_wires_same out.latches))) out.above;
    }
