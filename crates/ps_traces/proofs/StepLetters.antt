-- Exactly one letter belongs to each step of a circuit.
use Rattle.std.proofs.Common.{◌≡◌, ℕ, inl, inr, Bool, false, List, [], ◌∷◌, length, get_or, Option, refl}
use Rattle.std.proofs.Common.{ap, sym, ◌∙◌, arith, rules}
use Rattle.std.proofs.lemmas.Bool.{cases_lt}
use Rattle.ps_diagram.specs.Letters.{letter_of}
use Rattle.ps_diagram.proofs.Letters.{letter_is, letter_lt}
use Rattle.ps_hoa.specs.Files.{is_among}
use Rattle.ps_hoa.specs.Sound.{AreNames}
use Rattle.ps_circuit.specs.Circuits.{CircuitData}
use Rattle.ps_circuit.specs.Values.{Moment}
use Rattle.ps_simulate.specs.Symbols.{AreDistinct, IsSymbol, AreNamesOnce, HasSymbols, sets_controllable}
use Rattle.ps_simulate.specs.Lassos.{IsLetterOf, AreLetters}
use Rattle.ps_simulate.specs.declared.role.Role.{Role}
use Rattle.ps_simulate.proofs.NamingLemmas.{names_differ, role_apart, some_same, within}
use Rattle.ps_simulate.proofs.UniqueVerdicts.OneLetter.{one_letters, side}
use Rattle.ps_traces.specs.Inputs.{HasLetters}

module _ {role : Role} {names : List (List ℕ)} {controllable : List ℕ} {c : CircuitData} (distinct : AreDistinct names)
    (has : HasSymbols role names controllable c) where
  -- each of the given input or output names is the name of a proposition; if `wanted` is true, all these propositions
  -- are controllable, and otherwise none of them is
  of_side : (wanted : Bool) (symbols : List (Option (List ℕ))) (k p : ℕ) →
      AreNamesOnce names controllable wanted symbols → IsSymbol names symbols k p → is_among p controllable ≡ wanted
  of_side wanted symbols k p once s =
      let found = once.some k (within symbols k (get_or names p []) s.is) in
      grind (arith, some_same, distinct)

  -- a bit that is, in the step m, the value of each input and each output with the name of the proposition p
  bit_of : (m : Moment) (p : ℕ) → (bit : Bool) ×
      ((k : ℕ) → IsSymbol names c.input_names k p → bit ≡ get_or m.inputs k false) ×
      ((k : ℕ) → IsSymbol names c.output_names k p → bit ≡ get_or m.outputs k false)
  bit_of m p = elim (cases_lt p (length names)) [
    | inl lt ↦ elim (side role (is_among p controllable)) [
      | inl input ↦ (let at = has.inputs.each p lt input in (
        get_or m.inputs at.0 false,
        λ k s. ap (λ j. get_or m.inputs j false) (has.inputs.once at.0 k p at.1 s),
        λ k s. absurd (role_apart role (sym input ∙ of_side (sets_controllable role) c.output_names k p has.outputs s)),
      ))
      | inr output ↦ (let at = has.outputs.each p lt output in (
        get_or m.outputs at.0 false,
        search (rules, role_apart, of_side),
        λ k s. ap (λ j. get_or m.outputs j false) (has.outputs.once at.0 k p at.1 s),
      ))
    ]
    | inr le ↦ (false, λ k s. absurd (omega (arith, le, s.within)), λ k s. absurd (omega (arith, le, s.within)))
  ]

  letter : Moment → ℕ
  letter m = letter_of (length names) (λ p. (bit_of m p).0)

  letter_of_moment : (m : Moment) → IsLetterOf names c m (letter m)
  unfolding letter
  letter_of_moment m = search (rules, bit_of, letter_lt, letter_is)

  letters : (ms : List Moment) → (ls : List ℕ) × AreLetters names c ms ls
  letters [] = ([], refl)
  letters (m ∷ ms) = let rest = letters ms in (letter m ∷ rest.0, (letter_of_moment m, rest.1))

  -- exactly one list of letters belongs to each list of steps
  pub letters_there : (moments : List Moment) → HasLetters names c moments
  letters_there ms = let found = letters ms in
      grind (arith, letters, one_letters)

pub has_letters : {role : Role} {names : List (List ℕ)} {controllable : List ℕ} {c : CircuitData} → AreNames names →
    HasSymbols role names controllable c → (moments : List Moment) → HasLetters names c moments
has_letters {names} are_names has = letters_there (names_differ names are_names) has
