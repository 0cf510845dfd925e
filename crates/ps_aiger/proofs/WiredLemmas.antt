-- The gates of a machine's whole circuit, built for one bit of the machine's step after another.
use Rattle.std.proofs.Common.{rules, ◌≡◌, ◌∙◌, ℕ, zero, suc, ◌+◌, ◌-◌, ◌*◌, ◌%◌, ◌^◌, ◌<◌, ◌≤◌, List, [], ◌∷◌, ◌++◌}
use Rattle.std.proofs.Common.{map, length, drop}
use Rattle.std.proofs.Common.{slice_get, Option, Some, None, refl, sym, ap, subst, arith, inl, inr, append_assoc}
use Rattle.std.proofs.Common.{append-nil, set}
use Rattle.std.specs.Prelude.{replicate, slice_index}
use Rattle.std.specs.List.{All, range_with_len}
use Rattle.std.proofs.lemmas.Bool.{cases_eq, cases_lt}
use Rattle.std.proofs.lemmas.List.{same_lists, length-map, get_or-map, drop_more, drop_all, get_or_default}
use Rattle.std.proofs.lemmas.List.{get_or-replicate, get_or-set_other, get_or-set_same, get_or_past, length-replicate}
use Rattle.std.proofs.lemmas.List.{length-set}
use Rattle.std.proofs.lemmas.List.FromFn.{length-range_with_len, get_or-range_with_len}
use Rattle.std.proofs.lemmas.Option.{get_or_from_slice_get, slice_get-get_or}
use Rattle.std.proofs.lemmas.Simd.{map-map}
use Rattle.ps_machine.specs.Behaviours.{Behaviour}
use Rattle.ps_aiger.specs.declared.stored.Stored.{Stored}
use Rattle.ps_aiger.specs.declared.stored.Wanted.{Wanted}
use Rattle.ps_aiger.specs.declared.stored.Wanted.TheVariants.{Next, Output}
use Rattle.ps_circuit.specs.declared.parts.Latch.{Latch}
use Rattle.ps_circuit.specs.Building.{Drafted, Extends, IsHeld, variables_of}
use Rattle.ps_aiger.specs.Inner.Built.{IsBuilt}
use Rattle.ps_circuit.specs.Circuits.{CircuitData}
use Rattle.ps_aiger.specs.Encoded.{letter_over, memory_of_code}
use Rattle.ps_aiger.specs.Inner.Functions.{AreOutputs, IsLiteralOf, IsWanted, IsWhole, KnowsMade, behaviour_of}
use Rattle.ps_aiger.specs.Inner.Functions.{bit_wanted, bits_wired, code_wanted, literal_at, node_in, node_made}
use Rattle.ps_circuit.specs.Gates.{Made, mux_of}
use Rattle.ps_aiger.specs.Wires.{AreGates, IsOutOfLiterals, IsWired, IsWiredBy, StepBit, Wired, code_made, next_wires}
use Rattle.ps_aiger.specs.Wires.{output_bit, output_wires, wired}
use Rattle.ps_aiger.proofs.CircuitShape.{no_latch}
use Rattle.ps_aiger.proofs.FunctionLemmas.{few_latches, shl_is}
use Rattle.ps_circuit.proofs.GatesAndLinks.GateLemmas.{drafted_are, extends-refl, extends-trans, held-extends}
use Rattle.ps_circuit.proofs.GatesAndLinks.MadeLemmas.{above-extends, mux-extends, mux-same}
use Rattle.ps_aiger.proofs.OverLemmas.{choose, inputs-again, over-same}
use Rattle.ps_aiger.proofs.SameWires.{memory_within}
use Rattle.ps_aiger.proofs.StoredSteps.{machine_is, step_is}
use Rattle.ps_aiger.proofs.WireLemmas.{wired-extends}

-- ## A choice between two literals that were built before

pub choice-made : (whole high : Made) (low : Drafted → Made) (a b : Drafted) (s t f : ℕ) →
    whole ≡ choose s high (low high.draft) → high ≡ record { draft = a; literal = t } →
    low a ≡ record { draft = b; literal = f } → whole ≡ mux_of b s t f
choice-made whole high low a b s t f is h l = grind arith

pub choice-above : (whole high : Made) (low : Drafted → Made) (s : ℕ) → whole ≡ choose s high (low high.draft) →
    ((d : Drafted) → Extends d (low d).draft) → 2147483647 < variables_of high.draft →
    2147483647 < variables_of whole.draft
choice-above whole high low s is grows above = grind (arith, above-extends, extends-trans, mux-extends)

pub choice-above_low : (whole high : Made) (low : Drafted → Made) (a : Drafted) (s t : ℕ) →
    whole ≡ choose s high (low high.draft) → high ≡ record { draft = a; literal = t } →
    2147483647 < variables_of (low a).draft → 2147483647 < variables_of whole.draft
choice-above_low whole high low a s t is h above = grind (arith, above-extends, mux-extends)

-- ## Tables of nodes

pub made-kept : (m : Stored) (w : Wanted) (d e : Drafted) (known : ℕ → Option ℕ) → Extends d e →
    KnowsMade m w d known → KnowsMade m w e known
made-kept m w d e known x h node literal is =
    let there = h node literal is in
    grind (arith, held-extends, inputs-again)

none_at : (n node : ℕ) → literal_at (replicate n None) node ≡ None
none_at n node = elim (cases_lt node n) [
  | inl within ↦ get_or-replicate n node None None within
  | inr past ↦ get_or_past (replicate n None) node None
      (subst (λ k. k ≤ node) (sym (length-replicate {A = Option ℕ} n None)) past)
]

pub none-known : (m : Stored) (w : Wanted) (d : Drafted) (n : ℕ) → KnowsMade m w d (literal_at (replicate n None))
none-known m w d n node literal is = absurd (none_is_some (sym (none_at n node) ∙ is))
  where
    none_is_some : None ≡ Some literal → ⊥
    none_is_some e = cc

pub made-here : (m : Stored) (w : Wanted) (d e : Drafted) (node literal : ℕ) → IsHeld e literal →
    node_made m w node d ≡ record { draft = e; literal = literal } → IsLiteralOf m w e node literal
made-here m w d e node literal held made =
    record { held = held; made = grind (arith, inputs-again, extends-refl) }

pub made-more : (m : Stored) (w : Wanted) (d : Drafted) (known : List (Option ℕ)) (key value : ℕ) →
    KnowsMade m w d (literal_at known) → IsLiteralOf m w d key value →
    KnowsMade m w d (literal_at (set known key (Some value)))
made-more m w d known key value h here node literal is = elim (cases_eq node key) [
  | inr other ↦ h node literal (sym (get_or-set_other known key node (Some value) None other) ∙ is)
  | inl one ↦ elim (cases_lt key (length known)) [
    | inl within ↦ subst (λ n. IsLiteralOf m w d n literal) (sym one) (subst (IsLiteralOf m w d key)
        (some_is value literal (sym (get_or-set_same known key (Some value) None within)
        ∙ ap (literal_at (set known key (Some value))) (sym one) ∙ is)) here)
    | inr past ↦ absurd (none_is_some (sym (get_or_past (set known key (Some value)) node None
        (omega (arith, one, past, length-set known key (Some value)))) ∙ is))
  ]
]
  where
    some_is : (a b : ℕ) → Some a ≡ Some b → a ≡ b
    some_is a b same = cc

    none_is_some : None ≡ Some literal → ⊥
    none_is_some e = cc

-- ## Latches

pub code-zero : (m : Stored) (w : Wanted) (latches code node : ℕ) (d : Drafted) → IsWhole m →
    IsWanted (behaviour_of m).outputs w → latches ≡ 0 →
    node ≡ node_in m w (memory_of_code (behaviour_of m) code) →
    code_wanted m w latches code d ≡ node_made m w node d
unfolding code_made node_made
code-zero m w latches code node d whole wanted none is =
    let b = behaviour_of m in
    ap (λ (n : ℕ). code_wanted m w n code d) none
    ∙ over-same (range_with_len 1 (length b.inputs)) _ _ d (λ bits e. step_is m w whole wanted (memory_of_code b code)
    (letter_over b.inputs bits) (memory_within b code (machine_is m whole).some))
    ∙ ap (λ (n : ℕ). node_made m w n d) (sym is)

code_of_none : (b : Behaviour) (code : ℕ) → b.memories ≤ code → 0 ≡ memory_of_code b code
code_of_none b code beyond = grind arith

-- each code from `code` on belongs to no memory state, so the literal is that of memory state 0
pub code-beyond : (m : Stored) (w : Wanted) (latches code node : ℕ) (d : Drafted) → IsWhole m →
    IsWanted (behaviour_of m).outputs w → (behaviour_of m).memories ≤ code → node ≡ node_in m w 0 →
    code_wanted m w latches code d ≡ node_made m w node d
unfolding code_made
code-beyond m w zero code node d whole wanted beyond is =
    code-zero m w 0 code node d whole wanted refl
    (is ∙ ap (node_in m w) (code_of_none (behaviour_of m) code beyond))
code-beyond m w (suc latch) code node d whole wanted beyond is =
    let s = 2 * (length (behaviour_of m).inputs + 1 + latch) in
    let made = node_made m w node d in
    ap (λ h. choose s h (code_wanted m w latch code h.draft))
    (code-beyond m w latch (code + 2 ^ latch) node d whole wanted (omega (arith, beyond)) is)
    ∙ ap (choose s made) (code-beyond m w latch code node made.draft whole wanted beyond is
    ∙ inputs-again m w node d made.draft (extends-refl made.draft)) ∙ mux-same made.draft s made.literal

pub code-suc : (m : Stored) (w : Wanted) (latches latch code upper s : ℕ) (d : Drafted) → latches ≡ suc latch →
    upper ≡ code + 2 ^ latch → s ≡ 2 * (length (behaviour_of m).inputs + 1 + latch) →
    code_wanted m w latches code d ≡ choose s (code_wanted m w latch upper d)
    (code_wanted m w latch code (code_wanted m w latch upper d).draft)
unfolding code_made
code-suc m w latches latch code upper s d es eu e = grind arith

-- if there is a latch, the literal of a bit is the choice, by the highest latch, between the literals for the two
-- halves of the codes
pub code-halves : (m : Stored) (w : Wanted) (latches code : ℕ) (d : Drafted) → (latches ≡ 0 → ⊥) →
    code + 2 ^ latches ≤ 18446744073709551616 → code_wanted m w latches code d ≡ choose
    (2 * (length (behaviour_of m).inputs + 1 + (latches - 1)))
    (code_wanted m w (latches - 1) (code + 1 * 2 ^ (latches - 1) % 18446744073709551616) d)
    (code_wanted m w (latches - 1) code
    (code_wanted m w (latches - 1) (code + 1 * 2 ^ (latches - 1) % 18446744073709551616) d).draft)
code-halves m w latches code d some fits =
    code-suc m w latches (latches - 1) code _ (2 * (length (behaviour_of m).inputs + 1 + (latches - 1))) d (omega arith)
    (ap (λ n. code + n) (shl_is (latches - 1) (few_latches latches code some fits))) refl

-- ## One function after another

-- the literals that were built already, followed by the literals in `rest`, which are built for the remaining bits of
-- the machine's step
abbrev pub behind : List ℕ → Wired → Wired
behind literals rest = record { draft = rest.draft; literals = literals ++ rest.literals }

pub wired-end : (m : Stored) (latches i : ℕ) (ws : List Wanted) (d : Drafted) (literals : List ℕ) → length ws ≤ i →
    behind literals (bits_wired m latches (drop i ws) d) ≡ record { draft = d; literals = literals }
unfolding wired
wired-end m latches i ws d literals done = grind (arith, drop_all, append-nil)

wired_first : (m : Stored) (latches : ℕ) (w : Wanted) (ws : List Wanted) (d : Drafted) →
    bits_wired m latches (w ∷ ws) d ≡ behind ((code_wanted m w latches 0 d).literal ∷ [])
    (bits_wired m latches ws (code_wanted m w latches 0 d).draft)
unfolding wired
wired_first m latches w ws d = refl

pub wired-step : (m : Stored) (latches i literal : ℕ) (ws : List Wanted) (w : Wanted) (d e : Drafted)
    (literals new : List ℕ) → i < length ws → slice_get ws i ≡ Some w →
    code_wanted m w latches 0 d ≡ record { draft = e; literal = literal } →
    new ≡ literals ++ literal ∷ [] → behind literals (bits_wired m latches (drop i ws) d) ≡ behind new
    (bits_wired m latches (drop (i + 1) ws) e)
wired-step m latches i literal ws w d e literals new lt at made added =
    grind (arith, drop_more ws i w lt, get_or_from_slice_get ws i w w at, wired_first, append_assoc)

pub wired-above : (m : Stored) (latches i : ℕ) (ws : List Wanted) (w : Wanted) (d : Drafted) (literals : List ℕ) →
    i < length ws → slice_get ws i ≡ Some w → 2147483647 < variables_of (code_wanted m w latches 0 d).draft →
    2147483647 < variables_of (behind literals (bits_wired m latches (drop i ws) d)).draft
wired-above m latches i ws w d literals lt at above =
    grind (arith, drop_more ws i w lt, get_or_from_slice_get ws i w w at, wired_first, above-extends, wired-extends)

-- ## The circuit

pub bits_are : (latches : ℕ) (bits : List Wanted) → length bits ≡ latches →
    ((k : ℕ) → k < latches → slice_get bits k ≡ Some (Next k)) → bits ≡ map Next (range_with_len 0 latches)
bits_are latches bits many each =
    let counted = length-range_with_len 0 latches in
    same_lists bits (map Next (range_with_len 0 latches)) (many ∙ sym counted
    ∙ sym (length-map (range_with_len 0 latches) Next)) (λ k e lt. (let within : k < latches = omega arith in
    get_or_from_slice_get bits k (Next k) e (each k within) ∙ ap Next (grind (arith, get_or-range_with_len))
    ∙ sym (get_or-map Next (range_with_len 0 latches) k 0 e (omega arith))))

pub first_wired : (m : Stored) (latches : ℕ) (bits given_bits : List Wanted) (d : Drafted) → given_bits ≡ bits →
    bits ≡ map Next (range_with_len 0 latches) → d.given ≡ length (behaviour_of m).inputs + latches → d.gates ≡ [] →
    bits_wired m latches given_bits d ≡ next_wires (behaviour_of m) latches
first_wired m latches bits given_bits d eb is given none = grind (arith, map-map, drafted_are)

bits_of_outputs : (b : Behaviour) (bits : List Wanted) → AreOutputs b.outputs bits →
    map (bit_wanted b) bits ≡ map (output_bit b) b.outputs
bits_of_outputs b bits are = same_lists (map (bit_wanted b) bits) (map (output_bit b) b.outputs)
    (length-map bits (bit_wanted b) ∙ are.many ∙ sym (length-map b.outputs (output_bit b))) (λ k d lt.
    (let within : k < length b.outputs = omega (arith, lt, length-map bits (bit_wanted b), are.many) in
    let w : Wanted = Output k (slice_index b.outputs k) in
    get_or-map (bit_wanted b) bits k w d (omega (arith, within, are.many))
    ∙ ap (bit_wanted b) (get_or_from_slice_get bits k w w (are.each k within))
    ∙ sym (get_or-map (output_bit b) b.outputs k 0 d within)))

-- the literals of the outputs are built after the literals of the latches' next values
pub all_wired : (m : Stored) (latches : ℕ) (bits : List Wanted) (d : Drafted) →
    d ≡ (next_wires (behaviour_of m) latches).draft → AreOutputs (behaviour_of m).outputs bits →
    output_wires (behaviour_of m) latches ≡ bits_wired m latches bits d
all_wired m latches bits d behind are =
    let b = behaviour_of m in
    ap (λ (fs : List StepBit). wired b latches fs (next_wires b latches).draft) (sym (bits_of_outputs b bits are))
    ∙ ap (λ (e : Drafted). bits_wired m latches bits e) (sym behind)

pub nexts_wanted : (outputs : List ℕ) (bits : List Wanted) (latches : ℕ) → length bits ≡ latches →
    ((k : ℕ) → k < latches → slice_get bits k ≡ Some (Next k)) → All (IsWanted outputs) bits
nexts_wanted outputs bits latches many each k e lt = subst (IsWanted outputs)
    (sym (get_or_from_slice_get bits k (Next k) e (each k (omega (arith, lt, many))))) tt

pub outputs_wanted : (outputs : List ℕ) (bits : List Wanted) → AreOutputs outputs bits → All (IsWanted outputs) bits
outputs_wanted outputs bits are k e lt =
    let within : k < length outputs = omega (arith, lt, are.many) in
    subst (IsWanted outputs)
    (sym (get_or_from_slice_get bits k (Output k (slice_index outputs k)) e (are.each k within)))
    (slice_get-get_or outputs k 0 within)

pub above-outputs : (m : Stored) (latches : ℕ) → 2147483647 < variables_of (next_wires (behaviour_of m) latches).draft
    → 2147483647 < variables_of (output_wires (behaviour_of m) latches).draft
above-outputs m latches above = grind (arith, above-extends, wired-extends)

pub out_of_literals : (m : Stored) (latches memories : ℕ) → memories ≡ (behaviour_of m).memories →
    memories ≤ 2 ^ latches →
    ((n : ℕ) → memories ≤ 2 ^ n → latches ≤ n) →
    2147483647 < variables_of (output_wires (behaviour_of m) latches).draft →
    IsOutOfLiterals (behaviour_of m)
out_of_literals m latches memories e room least above = grind arith

pub is_wired : (b : Behaviour) (latches : ℕ) (next : List ℕ) (c : CircuitData) → length next ≡ latches →
    (output_wires b latches).draft.given ≡ length b.inputs + latches →
    IsBuilt b (output_wires b latches).draft next (output_wires b latches).literals c →
    next ≡ (next_wires b latches).literals → IsWired b c
is_wired b latches next c many given built is =
    let count : latches ≡ length c.latches = sym many ∙ sym built.latches.many in
    let as_built : IsWiredBy b c latches = record {
      next = same_lists (map (λ (l : Latch). l.next) c.latches) next (length-map c.latches (λ (l : Latch). l.next)
          ∙ built.latches.many) (λ k e lt. (let within : k < length next = subst (λ n. k < n)
          (length-map c.latches (λ (l : Latch). l.next) ∙ built.latches.many) lt in
          get_or-map (λ (l : Latch). l.next) c.latches k no_latch e (search (rules, length-map))
          ∙ ap (λ (l : Latch). l.next) (get_or_from_slice_get c.latches k _ no_latch (built.latches.each k within))
          ∙ get_or_default next k 0 e within)) ∙ is;
      outputs = built.output_literals;
      gates = subst (λ n. AreGates (n + 1) (output_wires b latches).draft.gates c.gates) given built.gates;
    } in
    subst (IsWiredBy b c) count as_built
