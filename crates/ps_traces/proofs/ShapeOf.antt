-- The circuit of a machine has the inputs, the outputs and the order of moves of the machine's role (`HasShape`).
use Rattle.std.proofs.Common.{◌≡◌, ℕ, ◌<◌, ◌⊎◌, inl, Bool, true, List, [], map, length, get_or, Option}
use Rattle.std.proofs.Common.{None, Some, IsTrue, ap, sym, ◌∙◌, subst, arith, rules}
use Rattle.std.specs.List.{AllPairs}
use Rattle.std.proofs.lemmas.Bool.{cases_lt, cases_order}
use Rattle.std.proofs.lemmas.List.{length-map, get_or-map, get_or_past}
use Rattle.ps_hoa.specs.Files.{FileData, is_among}
use Rattle.ps_hoa.specs.Sound.{AreNames}
use Rattle.ps_circuit.specs.Circuits.{CircuitData}
use Rattle.ps_aiger.specs.Timing.{SeesNoInput}
use Rattle.ps_aiger.specs.Encoded.{Encodes, bits_over}
use Rattle.ps_machine.specs.Behaviours.{Behaviour, IsMachine}
use Rattle.ps_machine.specs.declared.key.Order.{Order}
use Rattle.ps_simulate.specs.Symbols.{IsSymbol, AreNamesOnce, HasSymbols, reads_controllable, sets_controllable}
use Rattle.ps_simulate.specs.declared.role.Role.{Role}
use Rattle.ps_simulate.proofs.NamingLemmas.{names_differ, role_apart}
use Rattle.ps_traces.specs.Roles.{IsMachineFor}
use Rattle.ps_traces.specs.Shapes.{HasShape}
use Rattle.ps_traces.proofs.LetterBits.{is_there, stands_in}
use Rattle.ps_simulate.proofs.UniqueVerdicts.OneLetter.{side}
use Rattle.ps_traces.proofs.Words.{memory_below}

-- a strictly ascending list has each number at only one index
stands_once : (ps : List ℕ) (j k : ℕ) → AllPairs (λ p q. p < q) ps → j < length ps → k < length ps →
    get_or ps j 0 ≡ get_or ps k 0 → j ≡ k
stands_once ps j k rising lj lk e = search (rules, cases_order)

module _ (names : List (List ℕ)) (controllable : List ℕ) (wanted : Bool) (ps : List ℕ) (are_names : AreNames names)
    (rising : AllPairs (λ p q. p < q) ps)
    (within : (p : ℕ) → is_among p ps ≡ true → p < length names)
    (own : (p : ℕ) → is_among p ps ≡ true → is_among p controllable ≡ wanted)
    (all : (p : ℕ) → p < length names → is_among p controllable ≡ wanted → is_among p ps ≡ true) where
  abbrev symbols : List (Option (List ℕ))
  symbols = map (λ p. Some (get_or names p [])) ps

  symbol_at : (k : ℕ) → k < length ps → get_or symbols k None ≡ Some (get_or names (get_or ps k 0) [])
  symbol_at k lt = get_or-map (λ p. Some (get_or names p [])) ps k 0 None lt

  size : length symbols ≡ length ps
  size = length-map ps (λ p. Some (get_or names p []))

  is_symbol : (k : ℕ) → k < length ps → IsSymbol names symbols k (get_or ps k 0)
  is_symbol k lt = record { within = within (get_or ps k 0) (is_there ps k lt); is = symbol_at k lt }

  -- only the proposition with the index k in the list `ps` has the name that the circuit's symbol k has
  back : (k p : ℕ) → IsSymbol names symbols k p → (k < length ps) × (get_or ps k 0 ≡ p)
  back k p s =
      let lt : k < length ps = search (rules, cases_lt, size, get_or_past) in
      let named : get_or names (get_or ps k 0) [] ≡ get_or names p [] = cc (symbol_at k lt, s.is) in
      (lt, names_differ names are_names (get_or ps k 0) p (within (get_or ps k 0) (is_there ps k lt)) s.within named)

  pub names_once : AreNamesOnce names controllable wanted symbols
  names_once = record {
    each = λ p lt sides.
        let at = stands_in p ps (all p lt sides) in
        (at.place, subst (λ q. IsSymbol names symbols at.place q) at.is (is_symbol at.place at.within));
    some = λ k lt.
        let there : k < length ps = omega (arith, lt, size) in
        (get_or ps k 0, is_symbol k there, own (get_or ps k 0) (is_there ps k there));
    once = λ j k p a b.
        let one = back j p a in
        let other = back k p b in
        stands_once ps j k rising one.0 other.0 (one.1 ∙ sym other.1);
  }

module _ (order : Order) (role : Role) (file : FileData) (m : Behaviour) (c : CircuitData) (is : IsMachine m)
    (is_for : IsMachineFor order role file m) (encodes : Encodes m c) where
  inside : (p : ℕ) → (is_among p m.inputs ≡ true) ⊎ (is_among p m.outputs ≡ true) → p < length file.names
  inside p h = search rules

  some_side : (p : ℕ) → p < length file.names → (is_among p m.inputs ≡ true) ⊎ (is_among p m.outputs ≡ true)
  some_side p lt = search rules

  file_names : AreNames file.names
  file_names = subst AreNames is_for.names is.are_names

  reads_own : (p : ℕ) → is_among p m.inputs ≡ true → is_among p file.controllable ≡ reads_controllable role
  reads_own p among = grind (arith, is_for.reads p (inside p (inl among)))

  reads_all : (p : ℕ) → p < length file.names → is_among p file.controllable ≡ reads_controllable role →
      is_among p m.inputs ≡ true
  reads_all p lt reads = grind (arith, is_for.reads p lt)

  -- the propositions that a machine outputs are those that its role sets
  sets_own : (p : ℕ) → is_among p m.outputs ≡ true → is_among p file.controllable ≡ sets_controllable role
  sets_own p among = search (rules, side, reads_all, inside)

  sets_all : (p : ℕ) → p < length file.names → is_among p file.controllable ≡ sets_controllable role →
      is_among p m.outputs ≡ true
  sets_all p lt sets = search (rules, some_side, role_apart, reads_own)

  has_symbols : HasSymbols role file.names file.controllable c
  has_symbols = search (rules, names_once, file_names, inside, reads_own, reads_all, sets_own, sets_all)

  sees_no_input : IsTrue m.is_first → SeesNoInput c
  sees_no_input first = λ latches inputs others outputs other_outputs next other_next a b.
      (let one = encodes.steps latches inputs outputs next a in
      let other = encodes.steps latches others other_outputs other_next b in
      one.outputs_are ∙ ap (bits_over m.outputs) (grind (arith, memory_below)) ∙ sym other.outputs_are)

  pub has_shape : HasShape order role file c
  has_shape = record { symbols = has_symbols; in_time = λ first. sees_no_input (is_for.turn ∙ first) }
