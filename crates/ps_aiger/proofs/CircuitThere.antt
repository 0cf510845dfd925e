-- If AIGER has enough literals for the gates that are built for a machine, the machine has a circuit with these gates.
use Rattle.std.proofs.Common.{rules, ◌≡◌, ◌∙◌, ℕ, zero, suc, ◌+◌, ◌*◌, ◌^◌, ◌<◌, ◌≤◌, ◌⊎◌, false, List, length, map}
use Rattle.std.proofs.Common.{get_or, Some, None, sym, ap, subst, arith, inl, inr, replicate}
use Rattle.std.specs.List.{range_with_len}
use Rattle.std.proofs.Math.Nat.{pow-suc}
use Rattle.std.proofs.lemmas.Bool.{cases_lt}
use Rattle.std.proofs.lemmas.List.{get_or_default}
use Rattle.std.proofs.lemmas.List.FromFn.{get_or-map-range_with_len, get_or-range_with_len, length-map-range_with_len}
use Rattle.std.proofs.lemmas.List.FromFn.{length-range_with_len}
use Rattle.std.proofs.lemmas.Option.{get_or_from_slice_get, slice_get_within, slice_get-get_or}
use Rattle.ps_circuit.specs.declared.builder.Sides.{Sides}
use Rattle.ps_circuit.specs.declared.parts.Gate.{Gate}
use Rattle.ps_circuit.specs.declared.parts.Latch.{Latch}
use Rattle.ps_circuit.specs.Building.{Drafted, IsSoundDraft, variables_of}
use Rattle.ps_circuit.specs.Circuits.{CircuitData, IsCircuit, IsDraft, ReadsGate}
use Rattle.ps_circuit.specs.Literals.{variable}
use Rattle.ps_circuit.proofs.GatesAndLinks.MadeSound.{HasRoom}
use Rattle.ps_circuit.proofs.GatesAndLinks.Ordered.{acyclic}
use Rattle.ps_machine.specs.Behaviours.{Behaviour, IsMachine}
use Rattle.ps_aiger.specs.Inner.Built.{AreLatches, IsBuilt}
use Rattle.ps_aiger.specs.Encoded.{Encodes, IsTidy, symbols_of}
use Rattle.ps_aiger.specs.Wires.{AreGates, IsOutOfLiterals, IsWired, next_bit, next_wires, output_wires}
use Rattle.ps_aiger.proofs.CircuitShape as shape
use Rattle.ps_aiger.proofs.CircuitSteps as steps
use Rattle.ps_aiger.proofs.EncodeLemmas.{inputs_within, named, outputs_within}
use Rattle.ps_aiger.proofs.LetterLemmas.{positive}
use Rattle.ps_aiger.proofs.WireLemmas.{next_many, output_given}
use Rattle.ps_aiger.proofs.WiredLemmas.{is_wired}
use Rattle.ps_aiger.proofs.WiredMade.{AreWires, IsBit, wires-made}

-- ## What is built from the wires

-- c is the circuit that is built from the gates of the machine's step, and AIGER has enough literals for these gates
pub record IsWhole (b : Behaviour) (latches : ℕ) (c : CircuitData) : Type 0 where
  pub room : HasRoom (output_wires b latches).draft
  pub built : IsBuilt b (output_wires b latches).draft (next_wires b latches).literals
      (output_wires b latches).literals c

pub whole : (b : Behaviour) (latches : ℕ) (d : Drafted) (next outputs : List ℕ) (c : CircuitData) → IsSoundDraft d →
    next ≡ (next_wires b latches).literals → output_wires b latches ≡ record { draft = d; literals = outputs } →
    IsBuilt b d next outputs c → IsWhole b latches c
whole b latches d next outputs c sound next_wired output_wired built = grind (arith, built)

module _ (b : Behaviour) (machine : IsMachine b) (latches : ℕ) (c : CircuitData) (w : IsWhole b latches c) where
  made : AreWires b latches
  made = wires-made b latches w.room

  next_bits : (j : ℕ) → j < latches → IsBit b latches (next_bit b j) (output_wires b latches).draft
      (get_or (next_wires b latches).literals j 0)
  next_bits j lt = subst (λ n. IsBit b latches (next_bit b n) (output_wires b latches).draft
      (get_or (next_wires b latches).literals j 0)) (grind (arith, get_or-range_with_len))
      (made.next.each j (subst (λ n. j < n) (sym (length-range_with_len 0 latches)) lt))

  next_held : (k : ℕ) → k < latches → variable (get_or (next_wires b latches).literals k 0) ≤ c.most
  next_held k lt = grind (arith, next_bits)

  outputs_held : (k e : ℕ) → k < length (output_wires b latches).literals →
      variable (get_or (output_wires b latches).literals k e) ≤ c.most
  outputs_held k e lt = subst (λ l. variable l ≤ c.most) (get_or_default (output_wires b latches).literals k 0 e lt)
      (subst (λ n. variable (get_or (output_wires b latches).literals k 0) ≤ n) (sym w.built.most)
      (made.outputs.each k (subst (λ n. k < n) made.outputs.many lt)).held)

  pub draft : IsDraft c
  draft = shape.is_draft b (output_wires b latches).draft made.outputs.sound latches (next_wires b latches).literals
      (output_wires b latches).literals c w.built (output_given b latches) (next_many b latches) next_held outputs_held
      (named b machine b.inputs (inputs_within b machine)) (named b machine b.outputs (outputs_within b machine))
      (sym made.outputs.many)

  pub ordered : (i j : ℕ) → ReadsGate c.gates i j → j < i
  ordered = shape.ordered b (output_wires b latches).draft made.outputs.sound latches (next_wires b latches).literals
      (output_wires b latches).literals c w.built (output_given b latches) (next_many b latches)

  pub is_tidy : IsTidy c
  is_tidy = shape.is_tidy b (output_wires b latches).draft made.outputs.sound latches (next_wires b latches).literals
      (output_wires b latches).literals c w.built (output_given b latches) (next_many b latches)

  pub wired : IsWired b c
  wired = grind (arith, is_wired, next_many, output_given)

  pub encodes : b.memories ≤ 2 ^ latches → ((n : ℕ) → b.memories ≤ 2 ^ n → latches ≤ n) → IsCircuit c → Encodes b c
  encodes room least is = steps.encodes b machine (output_wires b latches).draft latches (next_wires b latches).literals
      (output_wires b latches).literals c w.built (next_many b latches) room next_bits made.outputs is least

-- ## The circuit

-- the smallest number of latches that have a code for each memory state
least : (n : ℕ) → (l : ℕ) × (n ≤ 2 ^ l) × ((k : ℕ) → n ≤ 2 ^ k → l ≤ k)
least zero = (0, omega arith, λ k le. omega arith)
least (suc n) = (let before = least n in elim (cases_lt n (2 ^ before.0)) [
  | inl less ↦ (before.0, omega (arith, less), λ k le. before.2 k (omega (arith, le)))
  | inr more ↦ (
    suc before.0,
    omega (arith, before.1, pow-suc 2 before.0, positive before.0),
    grind arith,
  )
])

gate_at : ℕ → List Sides → ℕ → Gate
gate_at from sides k =
    let s : Sides = get_or sides k (record { first = 0; second = 0 }) in
    record { literal = 2 * (from + k); first = s.first; second = s.second }

gates_are : (from : ℕ) (sides : List Sides) →
    AreGates from sides (map (gate_at from sides) (range_with_len 0 (length sides)))
unfolding gate_at
gates_are from sides =
    let many = length-map-range_with_len (gate_at from sides) 0 (length sides) in
    record {
      many = many;
      each = λ k s at. (let lt = slice_get_within sides k s at in
          let e : 0 + k ≡ k = omega arith in
          let none = gate_at from sides 0 in
          slice_get-get_or _ k none (subst (λ n. k < n) (sym many) lt)
          ∙ ap (λ g. Some g) (get_or-map-range_with_len (gate_at from sides) 0 (length sides) k k none lt e)
          ∙ ap (λ (t : Sides).
          let g : Gate = record { literal = 2 * (from + k); first = t.first; second = t.second } in Some g)
          (get_or_from_slice_get sides k s _ at));
    }

latch_at : ℕ → List ℕ → ℕ → Latch
latch_at from next k = record { literal = 2 * (from + k); next = get_or next k 0; reset = false }

latches_are : (from : ℕ) (next : List ℕ) →
    AreLatches from next (map (latch_at from next) (range_with_len 0 (length next)))
unfolding latch_at
latches_are from next =
    let many = length-map-range_with_len (latch_at from next) 0 (length next) in
    record {
      many = many;
      each = λ k lt. (let e : 0 + k ≡ k = omega arith in
          let none = latch_at from next 0 in
          slice_get-get_or _ k none (subst (λ n. k < n) (sym many) lt)
          ∙ ap (λ l. Some l) (get_or-map-range_with_len (latch_at from next) 0 (length next) k k none lt e));
    }

circuit : Behaviour → ℕ → CircuitData
circuit b latches =
    let next = (next_wires b latches).literals in
    let outputs = output_wires b latches in
    record {
      most = variables_of outputs.draft;
      inputs = map (λ v. 2 * v) (range_with_len 1 (length b.inputs));
      latches = map (latch_at (length b.inputs + 1) next) (range_with_len 0 (length next));
      outputs = outputs.literals;
      gates =
          map (gate_at (outputs.draft.given + 1) outputs.draft.gates) (range_with_len 0 (length outputs.draft.gates));
      input_names = symbols_of b.names b.inputs;
      latch_names = replicate (length next) None;
      output_names = symbols_of b.names b.outputs;
    }

built : (b : Behaviour) (latches : ℕ) →
    IsBuilt b (output_wires b latches).draft (next_wires b latches).literals (output_wires b latches).literals
    (circuit b latches)
unfolding circuit
built b latches = search (rules, latches_are, gates_are)

pub circuit_there : (b : Behaviour) → IsMachine b →
    IsOutOfLiterals b ⊎ ((c : CircuitData) × Encodes b c × IsTidy c × IsWired b c)
circuit_there b machine =
    let l = least b.memories in
    let latches = l.0 in
    elim (cases_lt 2147483647 (variables_of (output_wires b latches).draft)) [
      | inl above ↦ inl (record { latches = latches; room = l.1; needed = l.2; above = above })
      | inr le ↦
          let c = circuit b latches in
          let w : IsWhole b latches c = record { room = omega (arith, le); built = built b latches } in
          let order = ordered b machine latches c w in
          let well : IsCircuit c = record {
            draft = draft b machine latches c w;
            acyclic = acyclic (ReadsGate c.gates) (length c.gates) order (λ i j r. slice_get_within c.gates i _ r.at_i);
          } in
          inr (
            c,
            encodes b machine latches c w l.1 l.2 well,
            is_tidy b machine latches c w,
            wired b machine latches c w,
          )
    ]
