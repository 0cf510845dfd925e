-- From given latch values and on given inputs, a circuit with unique values has at most one trace.
use Rattle.std.proofs.Common.{◌≡◌, ◌∙◌, ℕ, suc, ◌<◌, Bool, List, [], ◌∷◌, map, length, get_or, refl, sym, ap₂, arith}
use Rattle.ps_circuit.specs.Circuits.{CircuitData, IsCircuit}
use Rattle.ps_circuit.specs.declared.parts.Latch.{Latch}
use Rattle.ps_circuit.specs.Values.{Moment, Steps, GoesOn, HasOneValues, bit_of}
use Rattle.ps_simulate.proofs.EvaluationPlans.PlacesLemmas.{output_known, next_known}
use Rattle.ps_simulate.proofs.EvaluationPlans.RowLemmas.{no_latch}

-- ---- lists

maps_agree : {A : Type 0} (f g : A → Bool) (xs : List A) (d : A) →
    ((k : ℕ) → k < length xs → f (get_or xs k d) ≡ g (get_or xs k d)) → map f xs ≡ map g xs
maps_agree f g [] d same = refl
maps_agree f g (x ∷ xs) d same =
    ap₂ ◌∷◌ (same 0 (omega arith)) (maps_agree f g xs d (λ k lt. same (suc k) (omega arith)))

-- ---- steps

module _ (c : CircuitData) (is : IsCircuit c) (one : HasOneValues c) where
  -- the latches and inputs of a step determine its outputs and the latches after it
  steps_agree : (latches inputs outputs next outputs' next' : List Bool) → Steps c latches inputs outputs next →
      Steps c latches inputs outputs' next' → (outputs ≡ outputs') × (next ≡ next')
  steps_agree latches inputs outputs next outputs' next' a b =
      let agree = one.one inputs latches a.values b.values a.are_values b.are_values in
      let outputs_agree = maps_agree (bit_of a.values) (bit_of b.values) c.outputs 0
      (λ k lt. agree _ (output_known is k 0 lt)) in
      let next_agree = maps_agree (λ (l : Latch). bit_of a.values l.next) (λ (l : Latch). bit_of b.values l.next)
      c.latches no_latch (λ k lt. agree _ (next_known is k no_latch lt)) in
      (a.outputs_are ∙ outputs_agree ∙ sym b.outputs_are, a.next_are ∙ next_agree ∙ sym b.next_are)

  -- two steps from the same latch values with the same inputs are equal, and lead to the same latch values
  pub firsts_agree : (latches next next' : List Bool) (m n : Moment) → m.latches ≡ latches → n.latches ≡ latches →
      Steps c latches m.inputs m.outputs next → Steps c latches n.inputs n.outputs next' → m.inputs ≡ n.inputs →
      (m ≡ n) × (next ≡ next')
  firsts_agree latches next next' m n at at' steps steps' same =
      grind (arith, steps_agree latches m.inputs m.outputs next n.outputs next' steps (rw same steps'))

  pub runs_agree : (latches last last' : List Bool) (ms ns : List Moment) → GoesOn c latches ms last →
      GoesOn c latches ns last' → map (λ m. m.inputs) ms ≡ map (λ m. m.inputs) ns → (ms ≡ ns) × (last ≡ last')
  runs_agree latches last last' [] [] a b same = (refl, sym a ∙ b)
  runs_agree latches last last' [] (n ∷ ns) a b same = cc
  runs_agree latches last last' (m ∷ ms) [] a b same = cc
  runs_agree latches last last' (m ∷ ms) (n ∷ ns) (next, at, steps, rest) (next', at', steps', rest') same =
      let inputs : m.inputs ≡ n.inputs = cc in
      let tails : map (λ (m : Moment). m.inputs) ms ≡ map (λ (m : Moment). m.inputs) ns = cc in
      let first = firsts_agree latches next next' m n at at' steps steps' inputs in
      grind (arith, runs_agree next last last' ms ns rest (rw first.1 rest') tails)
