-- Whether a circuit wins follows from which words of its lasso traces satisfy the formula. The forms are those of
-- `ps_verify`, which judges by an automaton.
-- - `losing_by`: if the word of a lasso trace is wrong, the inputs that the trace reads are a counterexample
-- - `word_is_wrong`, `losing_word`: on a counterexample, the words that are found are wrong
-- - `apart`: a circuit does not both win and lose
use Rattle.std.proofs.Common.{◌≡◌, ◌∙◌, ℕ, ◌↔◌, List, refl, sym}
use Rattle.std.proofs.Common.{subst, arith}
use Rattle.std.proofs.lemmas.List.{length-map}
use Rattle.ps_circuit.specs.Circuits.{CircuitData, IsCircuit}
use Rattle.ps_circuit.specs.Values.{Moment, HasOneValues, resets}
use Rattle.ps_formula.specs.Satisfaction.{Satisfies}
use Rattle.ps_machine.specs.declared.key.Order.{Order}
use Rattle.ps_simulate.specs.Lassos.{IsWordOf}
use Rattle.ps_simulate.specs.Stimuli.{StimulusData}
use Rattle.ps_simulate.specs.Symbols.{HasSymbols}
use Rattle.ps_simulate.specs.Words.{TraceWordData}
use Rattle.ps_simulate.specs.declared.role.Role.{Role}
use Rattle.ps_simulate.specs.declared.role.Role.TheVariants.{Controller, Environment}
use Rattle.ps_traces.specs.Inputs.{inputs_of}
use Rattle.ps_traces.specs.Shapes.{IsInTimeWhereReached}
use Rattle.ps_traces.specs.Traces.{IsLassoWord}
use Rattle.ps_verify.specs.Stimulated.{IsWordOn}
use Rattle.ps_verify.proofs.TracesOn.{same_word}
use Rattle.ps_verify.proofs.WordsOn.{word_on}
use Rattle.ps_verify.proofs.Worth.{inputs_wide}
use Rattle.ps_models.specs.Judgements.{IsLosingFor, IsSatisfied, IsWinningFor, NamedFormula}

-- ## A word that shows that a circuit loses

module _ {role : Role} (f : NamedFormula) {c : CircuitData} (is_circuit : IsCircuit c) (one : HasOneValues c)
    (symbols : HasSymbols role f.names f.controllable c) where
  -- of two lasso traces that read one stimulus, the word of one satisfies the formula if that of the other does
  satisfied_as : {s : StimulusData} {stem lap other_stem other_lap : List ℕ} → IsWordOn f.names c s stem lap →
      IsWordOn f.names c s other_stem other_lap → IsSatisfied f stem lap → IsSatisfied f other_stem other_lap
  satisfied_as on other =
      subst (λ (w : ℕ → ℕ). Satisfies f.formula w 0) (same_word is_circuit one symbols on other)

  pub losing_by : (order : Order) {stem lap : List ℕ} → IsInTimeWhereReached order role c →
      (word : IsLassoWord f.names c stem lap) → (IsSatisfied f stem lap ↔ (role ≡ Environment)) →
      IsLosingFor order role f c (record { stem = inputs_of word.stem_moments; lap = inputs_of word.lap_moments })
  losing_by order {stem} {lap} in_time word wrong =
      let here : IsWordOn f.names c
      (record { stem = inputs_of word.stem_moments; lap = inputs_of word.lap_moments }) stem lap =
      record { word = word; reads = λ t. refl } in
      record {
        symbols = symbols;
        in_time = in_time;
        wide = record {
          stem_is = inputs_wide c (resets c) word.trace.back word.stem_moments word.trace.goes_there;
          lap_is = inputs_wide c word.trace.back word.trace.back word.lap_moments word.trace.comes_back;
        };
        some = omega (arith, length-map word.lap_moments (λ (m : Moment). m.inputs), word.trace.some);
        word = record { stem = stem; lap = lap };
        is_word = here;
        is_wrong = λ other_stem other_lap on. (
          λ satisfied. wrong.0 (satisfied_as on here satisfied),
          λ same. satisfied_as here on (wrong.1 same),
        );
      }

-- ## A circuit that loses

module _ {order : Order} {role : Role} {f : NamedFormula} {c : CircuitData} {s : StimulusData}
    (loses : IsLosingFor order role f c s) where
  pub word_is_wrong : (word : TraceWordData) → IsWordOf f.names c s.stem s.lap word →
      IsSatisfied f word.stem word.lap ↔ (role ≡ Environment)
  word_is_wrong word is = loses.is_wrong word.stem word.lap (word_on is)

  pub losing_word : IsSatisfied f loses.word.stem loses.word.lap ↔ (role ≡ Environment)
  losing_word = loses.is_wrong loses.word.stem loses.word.lap loses.is_word

  wins_not : (r : Role) → r ≡ role → IsWinningFor order role f c → ⊥
  wins_not Controller same wins =
      let satisfied = wins.satisfied (sym same) loses.word.stem loses.word.lap loses.is_word.word in
      let wrong : Controller ≡ Environment = same ∙ losing_word.0 satisfied in
      cc
  wins_not Environment same wins =
      wins.violated (sym same) loses.word.stem loses.word.lap loses.is_word.word (losing_word.1 (sym same))

pub apart : (order : Order) (role : Role) (f : NamedFormula) (c : CircuitData) (s : StimulusData) →
    IsWinningFor order role f c → IsLosingFor order role f c s → ⊥
apart order role f c s wins loses = wins_not loses role refl wins
