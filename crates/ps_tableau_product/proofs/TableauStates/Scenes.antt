-- A circuit whose inputs and outputs each have a proposition: a letter belongs to each of its steps.
use Rattle.std.proofs.Common.{◌≡◌, ℕ, ◌<◌, inl, inr, Bool, false, List, [], Option, length, get_or}
use Rattle.std.proofs.Common.{refl, sym, ap, ◌∙◌, arith}
use Rattle.std.proofs.Math.Logic.{∥∥₁_elim}
use Rattle.std.proofs.Props.{props}
use Rattle.std.proofs.lemmas.List.{get_or_default}
use Rattle.std.specs.List.{Contains}
use Rattle.ps_circuit.specs.Circuits.{CircuitData}
use Rattle.ps_circuit.specs.Values.{Moment}
use Rattle.ps_diagram.specs.Letters.{letter_of}
use Rattle.ps_diagram.proofs.Letters.{letter_is, letter_lt}
use Rattle.ps_machine.proofs.AutomatonGames.LeastLetters.{contained_or_not}
use Rattle.ps_product.specs.Roles.{AreRoles}
use Rattle.ps_product.specs.declared.roles.Roles.{Roles}
use Rattle.ps_simulate.specs.Lassos.{IsLetterOf}
use Rattle.ps_simulate.specs.Symbols.{AreDistinct, IsSymbol}
use Rattle.ps_simulate.proofs.NamingLemmas.{some_same, within}
use Rattle.ps_tableau_product.specs.Plans.{Scene}

-- each input and each output has its proposition, and each step has a letter
pub record IsScene (s : Scene) (found : Roles) : Type 0 where
  pub roles : AreRoles s.names s.circuit found
  pub inputs_are : s.inputs ≡ found.inputs.items
  pub letters : (m : Moment) → (letter : ℕ) × IsLetterOf s.names s.circuit m letter

-- a truncated proof yields one that is not, since it is decidable whether a list contains a number
pub roles_given : {names : List (List ℕ)} {c : CircuitData} {roles : Roles} → ∥ AreRoles names c roles ∥₁ →
    AreRoles names c roles
roles_given {names} {c} {roles} cast = record {
  few = ∥∥₁_elim cast (hlevel props) (λ are. are.few);
  inputs_each = ∥∥₁_elim cast (hlevel props) (λ are. are.inputs_each);
  outputs_each = ∥∥₁_elim cast (hlevel props) (λ are. are.outputs_each);
  inputs_are = λ k lt. record {
    within = ∥∥₁_elim cast (hlevel props) (λ are. (are.inputs_are k lt).within);
    is = ∥∥₁_elim cast (hlevel props) (λ are. (are.inputs_are k lt).is);
  };
  outputs_are = λ k lt. record {
    within = ∥∥₁_elim cast (hlevel props) (λ are. (are.outputs_are k lt).within);
    is = ∥∥₁_elim cast (hlevel props) (λ are. (are.outputs_are k lt).is);
  };
  inputs_differ = λ j k lj lk same. ∥∥₁_elim cast (hlevel props) (λ are. are.inputs_differ j k lj lk same);
  outputs_differ = λ j k lj lk same. ∥∥₁_elim cast (hlevel props) (λ are. are.outputs_differ j k lj lk same);
  apart = λ p here there. ∥∥₁_elim cast (hlevel props) (λ are. are.apart p here there);
  every = λ p lt. elim (contained_or_not roles.inputs.items p) [
    | inl input ↦ inl input
    | inr no_input ↦ inr (elim (contained_or_not roles.outputs.items p) [
      | inl output ↦ output
      | inr no_output ↦ absurd (∥∥₁_elim cast (hlevel props) (λ are. elim (are.every p lt) [
        | inl input ↦ no_input input
        | inr output ↦ no_output output
      ]))
    ])
  ];
}

module _ {names : List (List ℕ)} (distinct : AreDistinct names) where
  -- a symbol that names a proposition has its number in the list
  number_of : (symbols : List (Option (List ℕ))) (list : List ℕ) → length list ≡ length symbols →
      ((k : ℕ) → k < length list → IsSymbol names symbols k (get_or list k 0)) → (k p : ℕ) →
      IsSymbol names symbols k p → (k < length list) × (get_or list k 0 ≡ p)
  number_of symbols list each are k p symbol =
      let low : k < length list = omega (arith, within symbols k (get_or names p []) symbol.is, each) in
      let here = are k low in (
        low,
        distinct (get_or list k 0) p here.within symbol.within
            (some_same (get_or names (get_or list k 0) []) (get_or names p []) (sym here.is ∙ symbol.is)),
      )

  module _ {c : CircuitData} {roles : Roles} (are : AreRoles names c roles) where
    input_at : (k p : ℕ) → IsSymbol names c.input_names k p →
        (k < length roles.inputs.items) × (get_or roles.inputs.items k 0 ≡ p)
    input_at = number_of c.input_names roles.inputs.items are.inputs_each are.inputs_are

    output_at : (k p : ℕ) → IsSymbol names c.output_names k p →
        (k < length roles.outputs.items) × (get_or roles.outputs.items k 0 ≡ p)
    output_at = number_of c.output_names roles.outputs.items are.outputs_each are.outputs_are

    contained : (list : List ℕ) (k p : ℕ) → k < length list → get_or list k 0 ≡ p → Contains list p
    contained list k p low at = (k, low, sym (get_or_default list k 0 p low) ∙ at)

    -- a bit that is, in the step m, the value of each input and each output with the name of the proposition p
    bit_of : (m : Moment) (p : ℕ) → (bit : Bool) ×
        ((k : ℕ) → IsSymbol names c.input_names k p → bit ≡ get_or m.inputs k false) ×
        ((k : ℕ) → IsSymbol names c.output_names k p → bit ≡ get_or m.outputs k false)
    bit_of m p = elim (contained_or_not roles.inputs.items p) [
      | inl input ↦ (
        get_or m.inputs input.0 false,
        λ k symbol.
            let at = input_at k p symbol in
            ap (λ j. get_or m.inputs j false) (are.inputs_differ input.0 k input.1 at.0
            (get_or_default roles.inputs.items input.0 0 p input.1 ∙ input.2 ∙ sym at.1)),
        λ k symbol.
            let at = output_at k p symbol in
            absurd (are.apart p input (contained roles.outputs.items k p at.0 at.1)),
      )
      | inr no_input ↦ elim (contained_or_not roles.outputs.items p) [
        | inl output ↦ (
          get_or m.outputs output.0 false,
          λ k symbol.
              let at = input_at k p symbol in absurd (no_input (contained roles.inputs.items k p at.0 at.1)),
          λ k symbol.
              let at = output_at k p symbol in
              ap (λ j. get_or m.outputs j false) (are.outputs_differ output.0 k output.1 at.0
              (get_or_default roles.outputs.items output.0 0 p output.1 ∙ output.2 ∙ sym at.1)),
        )
        | inr no_output ↦ (
          false,
          λ k symbol.
              let at = input_at k p symbol in absurd (no_input (contained roles.inputs.items k p at.0 at.1)),
          λ k symbol.
              let at = output_at k p symbol in absurd (no_output (contained roles.outputs.items k p at.0 at.1)),
        )
      ]
    ]

    letter : (m : Moment) → (letter : ℕ) × IsLetterOf names c m letter
    letter m =
        let bits = λ (p : ℕ). (bit_of m p).0 in (
          letter_of (length names) bits,
          record {
            few = letter_lt (length names) bits;
            inputs = λ k p symbol. letter_is (length names) bits p symbol.within ∙ (bit_of m p).1 k symbol;
            outputs = λ k p symbol. letter_is (length names) bits p symbol.within ∙ (bit_of m p).2 k symbol;
          },
        )

    pub is_scene : IsScene (record { names = names; circuit = c; inputs = roles.inputs.items }) roles
    is_scene = record { roles = are; inputs_are = refl; letters = letter }
