-- A circuit that is built from given gates is well formed, and its variables are numbered in order (`IsTidy`).
use Rattle.std.proofs.Common.{◌≡◌, ◌∙◌, ℕ, ◌+◌, ◌*◌, ◌<◌, ◌≤◌, false, List, [], ◌∷◌, rules, map, length}
use Rattle.std.proofs.Common.{get_or, None, sym, ap, subst, arith, All}
use Rattle.std.specs.List.{flat_map}
use Rattle.std.proofs.lemmas.List.{length-map, get_or-map, same_lists, length-replicate}
use Rattle.std.proofs.lemmas.List.Elements.{All-append, All-map}
use Rattle.std.proofs.lemmas.Option.{get_or_from_slice_get}
use Rattle.ps_circuit.specs.declared.parts.Latch.{Latch}
use Rattle.ps_machine.specs.Behaviours.{Behaviour}
use Rattle.ps_circuit.specs.Circuits.{CircuitData, IsDraft, IsKnown, IsSymbolName, ReadsGate, definitions}
use Rattle.ps_circuit.specs.Literals.{variable}
use Rattle.ps_circuit.specs.Building.{Drafted, IsSoundDraft}
use Rattle.ps_aiger.specs.Inner.Built.{IsBuilt}
use Rattle.ps_aiger.specs.Encoded.{IsTidy, symbols_of}
use Rattle.ps_aiger.proofs.CircuitLayout as layout
use Rattle.ps_aiger.proofs.CircuitLayout.{IsLaidOut, none_at}
use Rattle.ps_aiger.proofs.RangeLemmas.{even_literals, length-even, even-at}

pub no_latch : Latch
no_latch = record { literal = 0; next = 0; reset = false }

module _ (m : Behaviour) (d : Drafted) (sound : IsSoundDraft d) (latches : ℕ) (next outputs : List ℕ)
    (c : CircuitData) (built : IsBuilt m d next outputs c)
    (given : d.given ≡ length m.inputs + latches) (many : length next ≡ latches) where
  latch_is : (k : ℕ) → k < latches → get_or c.latches k no_latch ≡ record
      { literal = 2 * (length m.inputs + 1 + k); next = get_or next k 0; reset = false }
  latch_is k lt = search (rules, get_or_from_slice_get, no_latch)

  many_latches : length c.latches ≡ latches
  many_latches = built.latches.many ∙ many

  latch_literals : map (λ l. l.literal) c.latches ≡ even_literals (length m.inputs + 1) latches
  latch_literals = same_lists _ _ (search (rules, length-map, many_latches, length-even))
      (λ k e lt. (let within : k < latches = search (rules, length-map, many_latches) in
      get_or-map (λ (l : Latch). l.literal) c.latches k no_latch e (subst (λ n. k < n) (sym many_latches) within)
      ∙ ap (λ (l : Latch). l.literal) (latch_is k within) ∙ sym (even-at (length m.inputs + 1) latches k e within)))

  laid : IsLaidOut d (length m.inputs) latches c
  laid = record {
    given = given;
    most = built.most;
    inputs = built.inputs;
    latch_literals = latch_literals;
    gates = built.gates;
  }

  known_of : (literal : ℕ) → variable literal ≤ c.most → IsKnown (definitions c) literal
  known_of = layout.known_of d sound (length m.inputs) latches c laid

  module _ (next_held : (k : ℕ) → k < latches → variable (get_or next k 0) ≤ c.most)
      (outputs_held : (k e : ℕ) → k < length outputs → variable (get_or outputs k e) ≤ c.most) where
    next_known : All (IsKnown (definitions c)) (map (λ l. l.next) c.latches)
    next_known = All-map (IsKnown (definitions c)) (λ (l : Latch). l.next) c.latches (λ k e lt.
        (let within : k < latches = subst (λ n. k < n) many_latches lt in
        let is : get_or c.latches k e ≡ record {
          literal = 2 * (length m.inputs + 1 + k);
          next = get_or next k 0;
          reset = false;
        } = get_or_from_slice_get c.latches k _ e (built.latches.each k (subst (λ n. k < n) (sym many) within)) in
        subst (λ (l : Latch). IsKnown (definitions c) l.next) (sym is) (grind (arith, known_of))))

    outputs_known : All (IsKnown (definitions c)) c.outputs
    outputs_known = search (rules, known_of)

    sides_known : All (IsKnown (definitions c)) (flat_map (λ g. g.first ∷ g.second ∷ []) c.gates)
    sides_known = layout.sides_known d sound (length m.inputs) latches c laid

    pub is_draft : All IsSymbolName (symbols_of m.names m.inputs) → All IsSymbolName (symbols_of m.names m.outputs) →
        length m.outputs ≡ length outputs → IsDraft c
    is_draft named_in named_out many_outputs = record {
      limit = subst (λ n. n < 2147483648) (sym built.most) sound.room;
      defined = layout.defined d sound (length m.inputs) latches c laid;
      once = layout.once d sound (length m.inputs) latches c laid;
      known = search (rules, All-append, next_known, outputs_known, sides_known);
      inputs_named = search (rules, length-map, length-even);
      latches_named = ap length built.latch_names ∙ length-replicate (length next) None ∙ sym built.latches.many;
      outputs_named = search (rules, length-map);
      input_names = subst (λ xs. All IsSymbolName xs) (sym built.input_names) named_in;
      latch_names = search (rules, none_at, length-replicate);
      output_names = subst (λ xs. All IsSymbolName xs) (sym built.output_names) named_out;
    }

  pub ordered : (i j : ℕ) → ReadsGate c.gates i j → j < i
  ordered = layout.ordered d sound (length m.inputs) latches c laid

  pub is_tidy : IsTidy c
  is_tidy = layout.is_tidy d sound (length m.inputs) latches c laid
