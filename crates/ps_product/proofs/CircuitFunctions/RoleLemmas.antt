-- Lemmas about the propositions that a circuit's symbols name.
use Rattle.std.proofs.Common.{◌≡◌, ◌≢◌, ℕ, zero, suc, ◌+◌, ◌<◌, ◌≤◌, ◌⊎◌, Bool, true, false, not, cond, List, [], ◌∷◌}
use Rattle.std.proofs.Common.{◌++◌, Option}
use Rattle.std.proofs.Common.{None, Some, length, get_or, refl, ap, sym, ◌∙◌, arith, inl, inr, length-append}
use Rattle.std.specs.List.{Contains}
use Rattle.std.proofs.lemmas.Bool.{cases_eq, eq-eqb, ne_eqb}
use Rattle.std.proofs.lemmas.List.{get_or_default}
use Rattle.ps_hoa.specs.Files.{is_among}
use Rattle.ps_diagram.proofs.NodeTables.Cells.{push_each, true_is_not_false}
use Rattle.ps_simulate.specs.Symbols.{AreDistinct, AreNamesOnce, IsSymbol, reads_controllable}
use Rattle.ps_simulate.specs.Symbols.{sets_controllable}
use Rattle.ps_simulate.specs.declared.role.Role.{Role}
use Rattle.ps_simulate.specs.declared.role.Role.TheVariants.{Controller, Environment}
use Rattle.ps_circuit.specs.Circuits.{CircuitData}
use Rattle.ps_product.specs.declared.roles.Roles.{Roles}
use Rattle.ps_simulate.proofs.NamingLemmas.{some_same, within}
use Rattle.ps_product.specs.Roles.{AreRoles}
use Rattle.ps_product.specs.Inner.Roles.{IsFull, IsListing}

-- ## Numbers in lists

pub among_at : (p : ℕ) (list : List ℕ) → is_among p list ≡ true → (j : ℕ) × (j < length list) × (get_or list j 0 ≡ p)
among_at p [] e = absurd (true_is_not_false (sym e))
among_at p (q ∷ list) e = elim (cases_eq p q) [
  | inl same ↦ (0, omega arith, sym same)
  | inr other ↦ let there = among_at p list (sym (ap (λ b. cond b true (is_among p list)) (ne_eqb p q other)) ∙ e) in
      (suc there.0, omega (arith, there.1), there.2)
]

pub not_among_at : (p : ℕ) (list : List ℕ) → is_among p list ≡ false → (j : ℕ) → j < length list → get_or list j 0 ≢ p
not_among_at p [] e j lt is = absurd (omega arith)
not_among_at p (q ∷ list) e zero lt is =
    true_is_not_false (sym (ap (λ b. cond b true (is_among p list)) (eq-eqb p q (sym is))) ∙ e)
not_among_at p (q ∷ list) e (suc j) lt is = elim (cases_eq p q) [
  | inl same ↦ true_is_not_false (sym (ap (λ b. cond b true (is_among p list)) (eq-eqb p q same)) ∙ e)
  | inr other ↦ not_among_at p list
      (sym (ap (λ b. cond b true (is_among p list)) (ne_eqb p q other)) ∙ e) j
      (omega arith) is
]

module _ (names : List (List ℕ)) (controllable : List ℕ) (wanted : Bool) (symbols : List (Option (List ℕ))) where
  -- the list of the symbols' propositions is extended by the proposition of one more symbol
  pub listing_push : {k : ℕ} (p : ℕ) {name : List ℕ} {list more : List ℕ} →
      IsListing names controllable wanted symbols k list → get_or symbols k None ≡ Some name → p < length names →
      get_or names p [] ≡ name → is_among p controllable ≡ wanted → is_among p list ≡ false →
      more ≡ list ++ p ∷ [] → IsListing names controllable wanted symbols (k + 1) more
  listing_push {k} p {name} {list} {more} h there lp named sides free e =
      let s : IsSymbol names symbols k p =
      record { within = lp; is = there ∙ ap (λ (n : List ℕ). Some n) (sym named) } in
      let size : length more ≡ k + 1 = ap length e ∙ length-append list (p ∷ []) ∙ ap (λ n. n + 1) h.one_each in
      let before = h.one_each in
      let each = push_each (λ j q. IsSymbol names symbols j q) 0 list p before e
      (λ i lt. h.each i (omega (arith, lt, before))) s in
      let side = push_each (λ j q. is_among q controllable ≡ wanted) 0 list p before e
      (λ i lt. h.side i (omega (arith, lt, before))) sides in
      let new = λ (i : ℕ) (lt : i < k). not_among_at p list free i (omega (arith, lt, before)) in
      let differ = push_each (λ i q. (j : ℕ) → j < k + 1 → q ≡ get_or more j 0 → i ≡ j) 0 list p before e
      (λ i lt. push_each (λ j q. get_or list i 0 ≡ q → i ≡ j) 0 list p before e
      (λ j less is. h.differ i j (omega (arith, lt, before)) (omega (arith, less, before)) is)
      (λ is. absurd (new i lt is)))
      (push_each (λ j q. p ≡ q → k ≡ j) 0 list p before e (λ j less is. absurd (new j less (sym is))) (λ is. refl)) in
      record {
        one_each = size;
        each = λ i lt. each i (omega (arith, lt, size));
        side = λ i lt. side i (omega (arith, lt, size));
        differ = λ i j lt less is. differ i (omega (arith, lt, size)) j (omega (arith, less, size)) is;
      }

  -- if a symbol names the same proposition as an earlier symbol, the symbols do not name each needed proposition
  -- exactly once
  pub twice : {k : ℕ} (p : ℕ) {name : List ℕ} {list : List ℕ} → IsListing names controllable wanted symbols k list →
      get_or symbols k None ≡ Some name → p < length names → get_or names p [] ≡ name → is_among p list ≡ true →
      ¬ AreNamesOnce names controllable wanted symbols
  twice {k} p {name} {list} h there lp named full once =
      let at = among_at p list full in
      let s : IsSymbol names symbols k p =
      record { within = lp; is = there ∙ ap (λ (n : List ℕ). Some n) (sym named) } in
      let r : IsSymbol names symbols at.0 p = rw at.2 at (h.each at.0 at.1) in
      let same = once.once at.0 k p r s in
      absurd (omega (arith, same, at.1, h.one_each))

  module _ (differ : AreDistinct names) {list : List ℕ}
      (h : IsListing names controllable wanted symbols (length symbols) list) where
    -- the proposition that a symbol names is in the list of propositions, at the index that the symbol has in its own
    -- list
    pub listed_at : (k p : ℕ) → IsSymbol names symbols k p → (k < length list) × (get_or list k 0 ≡ p)
    listed_at k p s =
        let lt : k < length list = omega (arith, h.one_each, within symbols k (get_or names p []) s.is) in
        let r = h.each k lt in (
          lt,
          differ (get_or list k 0) p r.within s.within
              (some_same (get_or names (get_or list k 0) []) (get_or names p []) (sym r.is ∙ s.is)),
        )

    pub missing : (p : ℕ) → p < length names → is_among p controllable ≡ wanted → is_among p list ≡ false →
        ¬ AreNamesOnce names controllable wanted symbols
    missing p lt sides free once =
        let s = once.each p lt sides in
        let at = listed_at s.0 p s.1 in
        not_among_at p list free s.0 at.0 at.1

    pub once_each : IsFull names controllable wanted list → AreNamesOnce names controllable wanted symbols
    once_each full = record {
      each = λ p lt sides.
          let at = full p lt sides in
          let there : get_or list at.0 0 ≡ p = get_or_default list at.0 0 p at.1 ∙ at.2 in
          (at.0, rw there at (h.each at.0 at.1));
      some = λ k lt.
          let less : k < length list = omega (arith, lt, h.one_each) in
          (get_or list k 0, h.each k less, h.side k less);
      once = λ j k p a b.
          let x = listed_at j p a in
          let y = listed_at k p b in
          h.differ j k x.0 y.0 (x.1 ∙ sym y.1);
    }

-- ## Inputs and outputs together

same_or_not : (b r : Bool) → (b ≡ r) ⊎ (b ≡ not r)
same_or_not true true = inl refl
same_or_not false false = inl refl
same_or_not true false = inr refl
same_or_not false true = inr refl

not_same : (r : Bool) → r ≡ not r → ⊥
not_same true e = true_is_not_false e
not_same false e = true_is_not_false (sym e)

module _ {names : List (List ℕ)} {controllable : List ℕ} (c : CircuitData) {r : Bool} (roles : Roles)
    (few : length names ≤ 64)
    (a : IsListing names controllable r c.input_names (length c.input_names) roles.inputs.items)
    (whole_a : IsFull names controllable r roles.inputs.items)
    (b : IsListing names controllable (not r) c.output_names (length c.output_names) roles.outputs.items)
    (whole_b : IsFull names controllable (not r) roles.outputs.items) where
  both_sides : (p : ℕ) → Contains roles.inputs.items p → Contains roles.outputs.items p → ⊥
  both_sides p x y =
      let one : get_or roles.inputs.items x.0 0 ≡ p = get_or_default roles.inputs.items x.0 0 p x.1 ∙ x.2 in
      let other : get_or roles.outputs.items y.0 0 ≡ p = get_or_default roles.outputs.items y.0 0 p y.1 ∙ y.2 in
      not_same r (sym (a.side x.0 x.1) ∙ ap (λ q. is_among q controllable) (one ∙ sym other) ∙ b.side y.0 y.1)

  pub are_roles : AreRoles names c roles
  are_roles = record {
    few = few;
    inputs_each = a.one_each;
    outputs_each = b.one_each;
    inputs_are = a.each;
    outputs_are = b.each;
    inputs_differ = a.differ;
    outputs_differ = b.differ;
    apart = both_sides;
    every = λ p lt. elim (same_or_not (is_among p controllable) r) [
      | inl same ↦ inl (whole_a p lt same)
      | inr other ↦ inr (whole_b p lt other)
    ];
  }

pub sets_is : (role : Role) → sets_controllable role ≡ not (reads_controllable role)
sets_is Controller = refl
sets_is Environment = refl
