-- The indices of a circuit's variables in the table of values.
use Rattle.std.proofs.Common.{◌≡◌, ◌≢◌, ℕ, zero, suc, ◌<◌, inl, inr, List, [], ◌∷◌, ◌++◌, map, length, get_or, refl}
use Rattle.std.proofs.Common.{sym, arith, nat_eq, AllPairs, Contains, rules}
use Rattle.std.specs.List.{flat_map}
use Rattle.std.proofs.lemmas.List.{length-map, get_or-map, get_or_default}
use Rattle.std.proofs.lemmas.List.Sums.{position_or_len_is}
use Rattle.std.proofs.lemmas.List.Elements.{All-contains, Contains-get_or, Contains-append_left, Contains-append_right}
use Rattle.std.proofs.lemmas.Bool.{eq-eqb, ne_eqb}
use Rattle.ps_circuit.specs.declared.parts.Latch.{Latch}
use Rattle.ps_circuit.specs.declared.parts.Gate.{Gate}
use Rattle.ps_circuit.specs.Circuits.{CircuitData, IsCircuit, IsKnown, definitions, readings}
use Rattle.ps_circuit.specs.Literals.{variable}
use Rattle.ps_simulate.specs.Plans.{variables, place_of_variable}

module _ {c : CircuitData} (is : IsCircuit c) where
  pub variables_at : (k d : ℕ) → k < length (definitions c) →
      get_or (variables c) (suc k) d ≡ variable (get_or (definitions c) k d)
  variables_at k d lt = get_or-map variable (definitions c) k d d lt

  many : length (map variable (definitions c)) ≡ length (definitions c)
  many = length-map (definitions c) variable

  -- no variable is twice in the list of variables, so each has one index
  pub variables_once : AllPairs (λ v w. v ≢ w) (variables c)
  variables_once = search (rules, many, variables_at)

  pub place_of-at : (k : ℕ) → k < length (variables c) → place_of_variable c (get_or (variables c) k 0) ≡ k
  place_of-at k lt = position_or_len_is (λ w. nat_eq w (get_or (variables c) k 0)) (variables c) k 0 (omega arith)
      (λ j less. ne_eqb _ _ (λ e. variables_once j k 0 less lt e)) (λ _. eq-eqb _ _ refl)

  known_at : (literal k : ℕ) → k < length (variables c) → get_or (variables c) k 0 ≡ variable literal
      → (place_of_variable c (variable literal) < length (variables c)) ×
      (get_or (variables c) (place_of_variable c (variable literal)) 0 ≡ variable literal)
  known_at literal k lt e = search (rules, place_of-at)

  -- if the variable of a literal is 0, or the circuit defines it, the list of the circuit's variables has an index for
  -- it
  pub place_known : (literal : ℕ) → IsKnown (definitions c) literal
      → (place_of_variable c (variable literal) < length (variables c)) ×
      (get_or (variables c) (place_of_variable c (variable literal)) 0 ≡ variable literal)
  place_known literal (inl zero_is) = known_at literal 0 (omega arith) (sym zero_is)
  place_known literal (inr (k, lt, e)) = known_at literal (suc k) (omega arith) (grind (arith, get_or_default))

  contains_variable : (literal : ℕ) → Contains (definitions c) literal → IsKnown (definitions c) literal
  contains_variable literal (k, lt, e) = inr (k, omega (arith, many), grind (arith, get_or-map))

  contains_mapped : {A : Type 0} (f : A → ℕ) (xs : List A) (i : ℕ) (d : A) → i < length xs →
      Contains (map f xs) (f (get_or xs i d))
  contains_mapped f xs i d lt = (i, omega (arith, length-map xs f), get_or-map f xs i d (f (get_or xs i d)) lt)

  -- the circuit defines the variable of the literal that stands for a gate's own value
  pub gate_known : (i : ℕ) (d : Gate) → i < length c.gates → IsKnown (definitions c) (get_or c.gates i d).literal
  gate_known i d lt = contains_variable _ (Contains-append_right (c.inputs ++ map (λ l. l.literal) c.latches) _ _
      (contains_mapped (λ g. g.literal) c.gates i d lt))

  reads_contain : (gates : List Gate) (i : ℕ) (d : Gate) → i < length gates
      → Contains (flat_map (λ g. g.first ∷ g.second ∷ []) gates) (get_or gates i d).first ×
      Contains (flat_map (λ g. g.first ∷ g.second ∷ []) gates) (get_or gates i d).second
  reads_contain [] i d lt = absurd (omega arith)
  reads_contain (g ∷ gates) zero d lt = ((0, omega arith, refl), (1, omega arith, refl))
  reads_contain (g ∷ gates) (suc i) d lt = search (rules, Contains-append_right, reads_contain gates i d (omega arith))

  -- for both literals that a gate reads, the variable is 0 or the circuit defines it
  pub sides_known : (place : ℕ) (default : Gate) → place < length c.gates →
      IsKnown (definitions c) (get_or c.gates place default).first × IsKnown (definitions c) (get_or c.gates place
      default).second
  sides_known i d lt =
      let both = reads_contain c.gates i d lt in
      let front = map (λ l. l.next) c.latches ++ c.outputs in grind (
        arith,
        All-contains (IsKnown (definitions c)) (readings c) _ is.draft.known (Contains-append_right front _ _ both.0),
        All-contains (IsKnown (definitions c)) (readings c) _ is.draft.known (Contains-append_right front _ _ both.1),
      )

  pub output_known : (i d : ℕ) → i < length c.outputs → IsKnown (definitions c) (get_or c.outputs i d)
  output_known i d lt = All-contains (IsKnown (definitions c)) (readings c) _ is.draft.known
      (search (rules, Contains-append_left, Contains-append_right, Contains-get_or))

  pub next_known : (i : ℕ) (d : Latch) → i < length c.latches → IsKnown (definitions c) (get_or c.latches i d).next
  next_known i d lt = All-contains (IsKnown (definitions c)) (readings c) _ is.draft.known
      (Contains-append_left (map (λ l. l.next) c.latches ++ c.outputs) _ _
      (Contains-append_left (map (λ l. l.next) c.latches) _ _ (contains_mapped (λ l. l.next) c.latches i d lt)))
