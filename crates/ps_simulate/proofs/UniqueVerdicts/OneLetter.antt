-- At most one letter belongs to a step of a circuit whose inputs and outputs have the names of the
-- propositions.
use Rattle.std.proofs.Common.{◌≡◌, ◌∙◌, ℕ, ◌⊎◌, inl, inr, Bool, List, [], ◌∷◌, length, sym, rules}
use Rattle.std.specs.Int.{bit_at}
use Rattle.std.proofs.lemmas.Nat.Bits.{same_from_bits_below, bit_at-lt}
use Rattle.ps_hoa.specs.Files.{is_among}
use Rattle.ps_circuit.specs.Circuits.{CircuitData}
use Rattle.ps_circuit.specs.Values.{Moment}
use Rattle.ps_simulate.specs.declared.role.Role.{Role}
use Rattle.ps_simulate.specs.Symbols.{HasSymbols, reads_controllable, sets_controllable}
use Rattle.ps_simulate.specs.Lassos.{IsLetterOf, AreLetters}
use Rattle.ps_automaton.proofs.ChainsOfSets.Bits.{same_bit}

-- both for a controller and for an environment, each proposition belongs to the inputs or to the outputs
pub side : (role : Role) (b : Bool) → (b ≡ reads_controllable role) ⊎ (b ≡ sets_controllable role)
side role b = search rules

module _ {role : Role} {names : List (List ℕ)} {controllable : List ℕ} {c : CircuitData}
    (has : HasSymbols role names controllable c) where
  one_letter : {m : Moment} {a b : ℕ} → IsLetterOf names c m a → IsLetterOf names c m b → a ≡ b
  one_letter {a} {b} h k = same_from_bits_below (length names) a b h.few k.few (λ p lt. same_bit (bit_at a p)
      (bit_at b p) (bit_at-lt a p) (bit_at-lt b p) (elim (side role (is_among p controllable)) [
        | inl input ↦ let s = has.inputs.each p lt input in h.inputs s.0 p s.1 ∙ sym (k.inputs s.0 p s.1)
        | inr output ↦ let s = has.outputs.each p lt output in h.outputs s.0 p s.1 ∙ sym (k.outputs s.0 p s.1)
      ]))

  pub one_letters : (ms : List Moment) (us vs : List ℕ) → AreLetters names c ms us → AreLetters names c ms vs → us ≡ vs
  one_letters [] us vs a b = a ∙ sym b
  one_letters (m ∷ ms) [] vs a b = absurd a
  one_letters (m ∷ ms) (u ∷ us) [] a b = absurd b
  one_letters (m ∷ ms) (u ∷ us) (v ∷ vs) a b = cc (one_letter a.0 b.0, one_letters ms us vs a.1 b.1)
