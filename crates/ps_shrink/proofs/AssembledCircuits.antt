-- A circuit that is assembled from the gates of a builder is well formed, and its gates are in order.
use Rattle.std.proofs.Common.{◌≡◌, ◌∙◌, ℕ, ◌+◌, ◌*◌, ◌<◌, ◌≤◌, List, [], ◌∷◌, rules, map, length}
use Rattle.std.proofs.Common.{get_or, slice_get, Some, None, false, sym, ap, subst, All}
use Rattle.std.specs.List.{flat_map}
use Rattle.std.proofs.lemmas.List.{length-map, get_or-map, same_lists, length-replicate}
use Rattle.std.proofs.lemmas.List.Elements.{All-append, All-map}
use Rattle.std.proofs.lemmas.Option.{slice_get-get_or, get_or_from_slice_get}
use Rattle.ps_circuit.specs.declared.parts.Latch.{Latch}
use Rattle.ps_circuit.specs.Building.{Drafted, IsHeld, IsSoundDraft}
use Rattle.ps_circuit.specs.Circuits.{CircuitData, IsCircuit, IsDraft, IsKnown, IsSymbolName, ReadsGate, definitions}
use Rattle.ps_circuit.specs.Literals.{variable}
use Rattle.ps_shrink.specs.declared.assembling.Cell.{Cell}
use Rattle.ps_shrink.specs.Inner.Assembled.{HasGatesOf}
use Rattle.ps_aiger.proofs.CircuitLayout as layout
use Rattle.ps_aiger.proofs.CircuitLayout.{IsLaidOut, none_at}
use Rattle.ps_aiger.proofs.RangeLemmas.{even_literals, length-even, even-at}

no_latch : Latch
no_latch = record { literal = 0; next = 0; reset = false }

no_cell : Cell
no_cell = record { next = 0; reset = false }

module _ (named : CircuitData) (d : Drafted) (sound : IsSoundDraft d) (cells : List Cell) (outputs : List ℕ)
    (c : CircuitData) (built : HasGatesOf named d cells outputs c)
    (given : d.given ≡ length named.inputs + length cells) where
  cell : ℕ → Cell
  cell k = get_or cells k no_cell

  cell_at : (k : ℕ) → k < length cells → slice_get cells k ≡ Some (cell k)
  unfolding cell
  cell_at k lt = slice_get-get_or cells k no_cell lt

  latch_is : (k : ℕ) (e : Latch) → k < length cells → get_or c.latches k e ≡ record
      { literal = 2 * (length named.inputs + 1 + k); next = (cell k).next; reset = (cell k).reset }
  latch_is k e lt = get_or_from_slice_get c.latches k _ e (built.latches.each k (cell k) (cell_at k lt))

  many_latches : length c.latches ≡ length cells
  many_latches = built.latches.many

  latch_literals : map (λ l. l.literal) c.latches ≡ even_literals (length named.inputs + 1) (length cells)
  latch_literals = same_lists _ _ (search (rules, length-map, many_latches, length-even))
      (λ k e lt. (let within : k < length cells = search (rules, length-map, many_latches) in
      get_or-map (λ (l : Latch). l.literal) c.latches k no_latch e (subst (λ n. k < n) (sym many_latches) within)
      ∙ ap (λ (l : Latch). l.literal) (latch_is k no_latch within)
      ∙ sym (even-at (length named.inputs + 1) (length cells) k e within)))

  laid : IsLaidOut d (length named.inputs) (length cells) c
  laid = record {
    given = given;
    most = built.most;
    inputs = built.inputs;
    latch_literals = latch_literals;
    gates = built.gates;
  }

  held_known : (literal : ℕ) → IsHeld d literal → IsKnown (definitions c) literal
  held_known literal held = layout.known_of d sound (length named.inputs) (length cells) c laid literal
      (subst (λ n. variable literal ≤ n) (sym built.most) held)

  module _ (nexts_held : All (λ cell. IsHeld d cell.next) cells) (outputs_held : All (IsHeld d) outputs)
      (is_circuit : IsCircuit named) (each_output : length outputs ≡ length named.outputs) where
    next_known : All (IsKnown (definitions c)) (map (λ l. l.next) c.latches)
    unfolding cell
    next_known = All-map (IsKnown (definitions c)) (λ (l : Latch). l.next) c.latches (λ k e lt.
        (let within : k < length cells = subst (λ n. k < n) many_latches lt in
        subst (λ (l : Latch). IsKnown (definitions c) l.next) (sym (latch_is k e within))
        (held_known _ (nexts_held k no_cell within))))

    outputs_known : All (IsKnown (definitions c)) c.outputs
    outputs_known = subst (λ xs. All (IsKnown (definitions c)) xs) (sym built.output_literals)
        (λ k e lt. held_known _ (outputs_held k e lt))

    sides_known : All (IsKnown (definitions c)) (flat_map (λ g. g.first ∷ g.second ∷ []) c.gates)
    sides_known = layout.sides_known d sound (length named.inputs) (length cells) c laid

    pub is_draft : IsDraft c
    is_draft = record {
      limit = subst (λ n. n < 2147483648) (sym built.most) sound.room;
      defined = layout.defined d sound (length named.inputs) (length cells) c laid;
      once = layout.once d sound (length named.inputs) (length cells) c laid;
      known = search (rules, All-append, next_known, outputs_known, sides_known);
      inputs_named = ap length built.input_names ∙ is_circuit.draft.inputs_named
          ∙ sym (ap length built.inputs ∙ length-even 1 (length named.inputs));
      latches_named = ap length built.latch_names ∙ length-replicate (length cells) None ∙ sym built.latches.many;
      outputs_named = ap length built.output_names ∙ is_circuit.draft.outputs_named ∙ sym each_output
          ∙ sym (ap length built.output_literals);
      input_names = subst (λ xs. All IsSymbolName xs) (sym built.input_names) is_circuit.draft.input_names;
      latch_names = search (rules, none_at, length-replicate);
      output_names = subst (λ xs. All IsSymbolName xs) (sym built.output_names) is_circuit.draft.output_names;
    }

  pub ordered : (i j : ℕ) → ReadsGate c.gates i j → j < i
  ordered = layout.ordered d sound (length named.inputs) (length cells) c laid
