-- A circuit and a part of it have the same names of inputs and outputs, and the letters of a trace of the circuit are
-- those of the part's trace.
-- - `symbols_of_part`, `symbols_of_whole`: the symbols of one of them are those of a role if those of the other are
-- - `inputs_kept`, `letters_of_part`: the trace of the part reads the same inputs, and has the same letters
-- - `word_of_part`: the word of a lasso trace of the circuit is the word of a lasso trace of the part
use Rattle.std.proofs.Common.{◌≡◌, ℕ, Bool, List, [], ◌∷◌, Option, refl, sym, subst}
use Rattle.ps_circuit.specs.Circuits.{CircuitData}
use Rattle.ps_circuit.specs.Values.{Moment}
use Rattle.ps_simulate.specs.Lassos.{AreLetters, IsLetterOf}
use Rattle.ps_simulate.specs.Symbols.{AreNamesOnce, HasSymbols, IsSymbol, reads_controllable, sets_controllable}
use Rattle.ps_simulate.specs.declared.role.Role.{Role}
use Rattle.ps_traces.specs.Inputs.{inputs_of}
use Rattle.ps_traces.specs.Traces.{IsLassoWord}
use Rattle.ps_cone.specs.Parts.{IsPartOf, moment_of, moments_of}
use Rattle.ps_cone.proofs.PartRuns.{lasso_of_part}

module _ {c : CircuitData} {kept : List Bool} {part : CircuitData} (p : IsPartOf c kept part) where
  abbrev Symbols : Type 0
  Symbols = List (Option (List ℕ))

  pub symbols_of_part : {role : Role} {names : List (List ℕ)} {controllable : List ℕ} →
      HasSymbols role names controllable c → HasSymbols role names controllable part
  symbols_of_part {role} {names} {controllable} has = record {
    inputs = subst (λ (symbols : Symbols). AreNamesOnce names controllable (reads_controllable role) symbols)
        (sym p.input_names) has.inputs;
    outputs = subst (λ (symbols : Symbols). AreNamesOnce names controllable (sets_controllable role) symbols)
        (sym p.output_names) has.outputs;
  }

  pub symbols_of_whole : {role : Role} {names : List (List ℕ)} {controllable : List ℕ} →
      HasSymbols role names controllable part → HasSymbols role names controllable c
  symbols_of_whole {role} {names} {controllable} has = record {
    inputs = subst (λ (symbols : Symbols). AreNamesOnce names controllable (reads_controllable role) symbols)
        p.input_names has.inputs;
    outputs = subst (λ (symbols : Symbols). AreNamesOnce names controllable (sets_controllable role) symbols)
        p.output_names has.outputs;
  }

  pub inputs_kept : (moments : List Moment) → inputs_of (moments_of kept moments) ≡ inputs_of moments
  inputs_kept [] = refl
  inputs_kept (m ∷ ms) = let rest = inputs_kept ms in λ i. m.inputs ∷ rest i

  letter_of_part : {names : List (List ℕ)} (m : Moment) (letter : ℕ) → IsLetterOf names c m letter →
      IsLetterOf names part (moment_of kept m) letter
  letter_of_part {names} m letter is = record {
    few = is.few;
    inputs = λ k q s.
        is.inputs k q (subst (λ (symbols : Symbols). IsSymbol names symbols k q) p.input_names s);
    outputs = λ k q s.
        is.outputs k q (subst (λ (symbols : Symbols). IsSymbol names symbols k q) p.output_names s);
  }

  pub letters_of_part : (names : List (List ℕ)) (moments : List Moment) (letters : List ℕ) →
      AreLetters names c moments letters → AreLetters names part (moments_of kept moments) letters
  letters_of_part names [] letters are = are
  letters_of_part names (m ∷ ms) [] are = absurd are
  letters_of_part names (m ∷ ms) (letter ∷ letters) are =
      (letter_of_part m letter are.0, letters_of_part names ms letters are.1)

  pub word_of_part : {names : List (List ℕ)} {stem lap : List ℕ} → IsLassoWord names c stem lap →
      IsLassoWord names part stem lap
  word_of_part {names} {stem} {lap} word = record {
    stem_moments = moments_of kept word.stem_moments;
    lap_moments = moments_of kept word.lap_moments;
    trace = lasso_of_part p word.stem_moments word.lap_moments word.trace;
    stem_letters = letters_of_part names word.stem_moments stem word.stem_letters;
    lap_letters = letters_of_part names word.lap_moments lap word.lap_letters;
  }
