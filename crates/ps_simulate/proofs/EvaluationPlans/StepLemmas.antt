-- Lemmas about the outputs and next latch values that a step of a circuit reads from its table of values.
use Rattle.std.proofs.Common.{◌≡◌, ℕ, suc, ◌<◌, Bool, false, List, [], ◌∷◌, map, length, get_or, refl, sym, ap, ap₂}
use Rattle.std.proofs.Common.{◌∙◌, arith, All}
use Rattle.std.proofs.lemmas.List.Elements.{All-from_get_or, All-map}
use Rattle.ps_circuit.specs.declared.parts.Latch.{Latch}
use Rattle.ps_circuit.specs.Circuits.{CircuitData, IsCircuit}
use Rattle.ps_simulate.specs.declared.plan.Wire.{Wire}
use Rattle.ps_simulate.specs.declared.plan.Plan.{Plan}
use Rattle.ps_circuit.specs.Values.{Steps, bit_of}
use Rattle.ps_simulate.specs.Plans.{IsPlan, IsRowInTable, IsWorkedOut, read, wire_of, variables}
use Rattle.ps_simulate.specs.Tables.{IsValueTable}
use Rattle.ps_simulate.proofs.EvaluationPlans.PlacesLemmas.{place_known, output_known, next_known}
use Rattle.ps_simulate.proofs.EvaluationPlans.RowLemmas.{no_latch, target_is, IsRowInTable-row}
use Rattle.ps_simulate.specs.NeededGates.{no_row}
use Rattle.ps_simulate.proofs.EvaluationPlans.WorkLemmas.{length-work_out, work_out-other}
use Rattle.ps_simulate.proofs.EvaluationPlans.ValueLemmas.{values_by, bit_of-values_by, AreValues-work_out}

module _ {c : CircuitData} (is : IsCircuit c) {plan : Plan} (p : IsPlan c plan) where
  pub rows_within : All (IsRowInTable (length (variables c))) plan.rows.items
  rows_within =
      All-from_get_or (IsRowInTable (length (variables c))) plan.rows.items no_row
      (λ k lt. IsRowInTable-row is p.rows_are k lt)

  pub outputs_within : All (λ w. w.place < length (variables c)) plan.outputs.items
  outputs_within = rw p.outputs_are (All-map (λ w. w.place < length (variables c)) (wire_of c) c.outputs
      (grind (arith, All-from_get_or, place_known, output_known)))

  pub nexts_within : All (λ w. w.place < length (variables c)) plan.nexts.items
  nexts_within = rw p.nexts_are (All-map (λ w. w.place < length (variables c)) (λ (l : Latch). wire_of c l.next)
      c.latches (grind (arith, All-from_get_or, place_known, next_known)))

-- if the table of values has the right value for each of some literals, reading all of them gives their values in order
reads : {A : Type 0} (literal : A → ℕ) (wire : A → Wire) (table values : List Bool) (xs : List A) (d : A)
    → ((k : ℕ) → k < length xs → read table (wire (get_or xs k d)) ≡ bit_of values (literal (get_or xs k d)))
    → map (read table) (map wire xs) ≡ map (λ x. bit_of values (literal x)) xs
reads literal wire table values [] d same = refl
reads literal wire table values (x ∷ xs) d same =
    ap₂ ◌∷◌ (same 0 (omega arith)) (reads literal wire table values xs d (λ k lt. same (suc k) (omega arith)))

-- after the rows of the plan are evaluated, the outputs and next latch values that are read from the table complete a
-- step of the circuit
pub Steps-worked_out : {c : CircuitData} → IsCircuit c → {plan : Plan} → IsPlan c plan →
    {inputs latches values outputs next : List Bool} → length inputs ≡ length c.inputs →
    length latches ≡ length c.latches → IsWorkedOut plan.rows.items inputs latches (length (variables c)) values →
    outputs ≡ map (read values) plan.outputs.items → next ≡ map (read values) plan.nexts.items →
    Steps c latches inputs outputs next
Steps-worked_out {c} is {plan} p {inputs} {latches} {values} many_inputs many_latches worked outputs_are next_are =
    record {
      values = values_by c values;
      are_values = rw worked.done (AreValues-work_out is p.rows_are worked.each many_inputs many_latches worked.holds);
      outputs_are = outputs_are ∙ ap (map (read values)) p.outputs_are ∙ reads (λ l. l) (wire_of c) values
          (values_by c values) c.outputs 0 (λ k lt. sym (bit_of-values_by is values _ (output_known is k 0 lt)));
      next_are = next_are ∙ ap (map (read values)) p.nexts_are
          ∙ reads (λ (l : Latch). l.next) (λ (l : Latch). wire_of c l.next) values (values_by c values) c.latches
          no_latch (λ k lt. sym (bit_of-values_by is values _ (next_known is k no_latch lt)));
    }

-- a step keeps the invariant of the table of values
pub IsValueTable-worked_out : {c : CircuitData} {plan : Plan} {old latches inputs values : List Bool} (next : List Bool)
    →
    IsValueTable c plan old latches → IsWorkedOut plan.rows.items inputs latches (length (variables c)) values →
    length next ≡ length c.latches → IsValueTable c plan values next
IsValueTable-worked_out {c} {plan} next t worked each = record {
  is_circuit = t.is_circuit;
  is_plan = t.is_plan;
  values_each = ap length worked.done ∙ length-work_out plan.rows.items worked.table ∙ worked.each;
  constant = ap (λ (all : List Bool). get_or all 0 false) worked.done ∙ work_out-other plan.rows.items worked.table 0
      (λ k lt e. (let h = target_is t.is_circuit t.is_plan.rows_are k lt in omega arith)) ∙ worked.holds.constant;
  latches_each = each;
}
