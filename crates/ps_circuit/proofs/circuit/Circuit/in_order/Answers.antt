use Rattle.std.proofs.Common.{arith, ◌≡◌, ◌∙◌, ℕ, ◌<◌, length, refl, sym, subst}
use Rattle.std.proofs.lemmas.Iterator.{YieldsList-from_range, items_from_collect}
use Rattle.std.proofs.lemmas.Option.{slice_get_within}
use Rattle.ps_components.specs.Orders.{IsOrder}
use Rattle.ps_circuit.specs.Circuits.{ReadsGate}
use Rattle.ps_circuit.proofs.GatesAndLinks.Ordered.{acyclic, order-of_numbers}
use Rattle.ps_circuit.proofs.circuit.Circuit.in_order.Goals as goal

pub invariant_of-result : goal.invariant_of-result
invariant_of-result c =
    let gates = c.args.parts.gates.items in
    let Reads = ReadsGate gates in
    let within : (i j : ℕ) → Reads i j → i < length gates = λ i j r. slice_get_within gates i _ r.at_i in
    let n : c.len.result ≡ length gates = c.len.ensures ∙ c.args.parts.gates.ok.0 in
    let numbers = items_from_collect _ c.collect.ensures.ran
    (YieldsList-from_range 0 c.len.result c.len.result refl (omega arith)) in (
      record { draft = c.requires.draft; acyclic = acyclic Reads (length gates) c.requires.ordered within },
      subst (IsOrder Reads (length gates)) (sym (rw (c.in_ok-order.was, n) at numbers))
          (order-of_numbers Reads (length gates) c.requires.ordered within),
    )

pub returns : goal.returns
returns c =
    let gates = c.args.parts.gates.items in
    record {
      is = refl;
      well_formed = record {
        draft = c.requires.draft;
        acyclic = acyclic (ReadsGate gates) (length gates) c.requires.ordered
            (λ i j r. grind (arith, slice_get_within));
      };
    }
