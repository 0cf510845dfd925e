-- A circuit runs as it does with the constant false in place of some outputs.
-- - `is_mask`: the mask is a circuit
-- - `run_of_mask`, `run_of_masked`: each run of one is a run of the other
-- - `lasso_of_mask`: a lasso trace of the circuit is one of the mask
use Rattle.std.proofs.Common.{◌≡◌, ◌∙◌, ◌+◌, ℕ, zero, suc, Bool, true, false, List, [], ◌∷◌, ◌++◌, All, length, map}
use Rattle.std.proofs.Common.{get_or, refl, ap, sym, subst, arith, inl, length-append}
use Rattle.std.specs.List.{flat_map}
use Rattle.std.proofs.lemmas.List.{get_or-append-add, get_or_append_left, length-map}
use Rattle.std.proofs.lemmas.List.Elements.{All-append, All-cons, All-head, All-tail}
use Rattle.ps_circuit.specs.Circuits.{CircuitData, IsCircuit, IsKnown, definitions}
use Rattle.ps_circuit.specs.Values.{AreValues, GoesOn, Moment, bit_of, resets}
use Rattle.ps_traces.specs.Traces.{IsLassoTrace}
use Rattle.ps_cone.specs.Masks.{IsRunOfMask, mask, masked, masked_moment, masked_moments}

-- ## Masked lists

length-masked : {X : Type 0} (instead : X) (kept : List Bool) (xs : List X) → length kept ≡ length xs →
    length (masked instead kept xs) ≡ length xs
length-masked instead [] [] same = refl
length-masked instead [] (x ∷ xs) same = absurd (omega (arith, same))
length-masked instead (b ∷ bs) [] same = absurd (omega (arith, same))
length-masked instead (b ∷ bs) (x ∷ xs) same = ap suc (length-masked instead bs xs (omega (arith, same)))

map-masked : {X Y : Type 0} (f : X → Y) (instead : X) (kept : List Bool) (xs : List X) →
    map f (masked instead kept xs) ≡ masked (f instead) kept (map f xs)
map-masked f instead [] xs = refl
map-masked f instead (b ∷ bs) [] = refl
map-masked f instead (true ∷ bs) (x ∷ xs) = ap (λ l. f x ∷ l) (map-masked f instead bs xs)
map-masked f instead (false ∷ bs) (x ∷ xs) = ap (λ l. f instead ∷ l) (map-masked f instead bs xs)

All-masked : {X : Type 0} (P : X → Type 0) (instead : X) (kept : List Bool) (xs : List X) → P instead → All P xs →
    All P (masked instead kept xs)
All-masked P instead [] xs other all = λ k d lt. absurd (omega (arith, lt))
All-masked P instead (b ∷ bs) [] other all = λ k d lt. absurd (omega (arith, lt))
All-masked P instead (true ∷ bs) (x ∷ xs) other all = All-cons P x (masked instead bs xs) (All-head P x xs all)
    (All-masked P instead bs xs other (All-tail P x xs all))
All-masked P instead (false ∷ bs) (x ∷ xs) other all = All-cons P instead (masked instead bs xs) other
    (All-masked P instead bs xs other (All-tail P x xs all))

-- a kept element stays
pub masked_at : {X : Type 0} (instead : X) (kept : List Bool) (xs : List X) (k : ℕ) (d : X) →
    get_or kept k false ≡ true → get_or (masked instead kept xs) k d ≡ get_or xs k d
masked_at instead [] xs k d flag = absurd (cc)
masked_at instead (b ∷ bs) [] k d flag = refl
masked_at instead (true ∷ bs) (x ∷ xs) zero d flag = refl
masked_at instead (false ∷ bs) (x ∷ xs) zero d flag = absurd (cc)
masked_at instead (b ∷ bs) (x ∷ xs) (suc k) d flag = masked_at instead bs xs k d flag

-- ## The mask is a circuit

front_all : {X : Type 0} (P : X → Type 0) (xs ys : List X) → All P (xs ++ ys) → All P xs
front_all P xs ys all k d lt = subst P (get_or_append_left xs ys d k lt)
    (all k d (omega (arith, lt, length-append xs ys)))

back_all : {X : Type 0} (P : X → Type 0) (xs ys : List X) → All P (xs ++ ys) → All P ys
back_all P xs ys all k d lt = subst P (get_or-append-add xs ys k d)
    (all (length xs + k) d (omega (arith, lt, length-append xs ys)))

pub is_mask : (kept : List Bool) (c : CircuitData) → IsCircuit c → length kept ≡ length c.outputs →
    IsCircuit (mask kept c)
is_mask kept c is many =
    let P = IsKnown (definitions c) in
    let nexts = map (λ l. l.next) c.latches in
    let sides = flat_map (λ g. g.first ∷ g.second ∷ []) c.gates in
    let known : All P (nexts ++ c.outputs) = front_all P (nexts ++ c.outputs) sides is.draft.known in
    record {
      draft = record {
        limit = is.draft.limit;
        defined = is.draft.defined;
        once = is.draft.once;
        known = All-append P (nexts ++ masked 0 kept c.outputs) sides
            (All-append P nexts (masked 0 kept c.outputs) (front_all P nexts c.outputs known)
            (All-masked P 0 kept c.outputs (inl refl) (back_all P nexts c.outputs known)))
            (back_all P (nexts ++ c.outputs) sides is.draft.known);
        inputs_named = is.draft.inputs_named;
        latches_named = is.draft.latches_named;
        outputs_named = is.draft.outputs_named ∙ sym (length-masked 0 kept c.outputs many);
        input_names = is.draft.input_names;
        latch_names = is.draft.latch_names;
        output_names = is.draft.output_names;
      };
      acyclic = is.acyclic;
    }

-- ## Runs

module _ (kept : List Bool) (c : CircuitData) where
  values_of_mask : {inputs latches values : List Bool} → AreValues c inputs latches values →
      AreValues (mask kept c) inputs latches values
  values_of_mask v = record {
    each = v.each;
    constant = v.constant;
    inputs_are = v.inputs_are;
    latches_are = v.latches_are;
    gates_are = v.gates_are;
  }

  values_of_masked : {inputs latches values : List Bool} → AreValues (mask kept c) inputs latches values →
      AreValues c inputs latches values
  values_of_masked v = record {
    each = v.each;
    constant = v.constant;
    inputs_are = v.inputs_are;
    latches_are = v.latches_are;
    gates_are = v.gates_are;
  }

  outputs_masked : {inputs latches values : List Bool} → AreValues c inputs latches values →
      map (bit_of values) (masked 0 kept c.outputs) ≡ masked false kept (map (bit_of values) c.outputs)
  outputs_masked {values = values} v = map-masked (bit_of values) 0 kept c.outputs
      ∙ ap (λ (b : Bool). masked b kept (map (bit_of values) c.outputs)) v.constant

  pub run_of_mask : (from : List Bool) (moments : List Moment) (to : List Bool) → GoesOn c from moments to →
      GoesOn (mask kept c) from (masked_moments kept moments) to
  run_of_mask from [] to goes = goes
  run_of_mask from (m ∷ ms) to (next, at, steps, rest) = (
    next,
    at,
    record {
      values = steps.values;
      are_values = values_of_mask steps.are_values;
      outputs_are = ap (masked false kept) steps.outputs_are ∙ sym (outputs_masked steps.are_values);
      next_are = steps.next_are;
    },
    run_of_mask next ms to rest,
  )

  pub run_of_masked : (from : List Bool) (moments : List Moment) (to : List Bool) →
      GoesOn (mask kept c) from moments to → IsRunOfMask c kept from moments to
  run_of_masked from [] to goes = record { whole = []; goes_on = goes; moments_are = refl }
  run_of_masked from (m ∷ ms) to (next, at, steps, rest) =
      let values = values_of_masked steps.are_values in
      let outputs = map (bit_of steps.values) c.outputs in
      let same : m.outputs ≡ masked false kept outputs = steps.outputs_are ∙ outputs_masked values in
      let later = run_of_masked next ms to rest in
      record {
        whole = record m { outputs = outputs } ∷ later.whole;
        goes_on = (
          next,
          at,
          record { values = steps.values; are_values = values; outputs_are = refl; next_are = steps.next_are },
          later.goes_on,
        );
        moments_are = λ i. record m { outputs = same i } ∷ later.moments_are i;
      }

  pub lasso_of_mask : (stem lap : List Moment) → IsLassoTrace c stem lap →
      IsLassoTrace (mask kept c) (masked_moments kept stem) (masked_moments kept lap)
  lasso_of_mask stem lap trace = record {
    some = rw (length-map lap (masked_moment kept)) trace.some;
    back = trace.back;
    goes_there = run_of_mask (resets c) stem trace.back trace.goes_there;
    comes_back = run_of_mask trace.back lap trace.back trace.comes_back;
  }
