-- What it means that a circuit wins for a formula, as controller or as environment, and what a counterexample is. The
-- definitions have the form of those that judge a circuit by an automaton (`IsWinning` and `IsLosing` of `ps_verify`).
-- - `IsWinningFor order role f c`: all lasso traces of a controller's circuit satisfy the formula, or none of the lasso
--   traces of an environment's circuit does
-- - `IsLosingFor order role f c s`: the lasso traces of a controller's circuit on the stimulus s violate the formula,
--   or those of an environment's circuit on s satisfy it
-- - `IsJudgementFor order role f c judgement`: the judgement is right: the circuit wins, or the judgement's stimulus is
--   a counterexample
use Rattle.std.specs.Prelude.{◌≡◌, ◌<◌, ◌↔◌, ℕ, List, length}
use Rattle.ps_label.specs.Words.{lasso_word}
use Rattle.ps_formula.specs.Formulas.{Formula}
use Rattle.ps_formula.specs.Satisfaction.{Satisfies}
use Rattle.ps_circuit.specs.Circuits.{CircuitData}
use Rattle.ps_circuit.specs.Values.{Moment}
use Rattle.ps_machine.specs.declared.key.Order.{Order}
use Rattle.ps_simulate.specs.LassoFaults.{AreWide}
use Rattle.ps_simulate.specs.Lassos.{AreLetters}
use Rattle.ps_simulate.specs.Stimuli.{StimulusData}
use Rattle.ps_simulate.specs.Symbols.{HasSymbols}
use Rattle.ps_simulate.specs.Words.{TraceWordData}
use Rattle.ps_simulate.specs.declared.role.Role.{Role}
use Rattle.ps_simulate.specs.declared.role.Role.TheVariants.{Controller, Environment}
use Rattle.ps_traces.specs.Inputs.{EachInputGoesOn, HasLetters}
use Rattle.ps_traces.specs.Meetings.{FiniteController, IsController, IsOneMeeting, MeetsInLasso}
use Rattle.ps_traces.specs.Shapes.{IsInTimeWhereReached}
use Rattle.ps_traces.specs.Traces.{IsLassoWord}
use Rattle.ps_verify.specs.Stimulated.{IsWordOn}
use Rattle.ps_verify.specs.declared.judgement.Judgement.{Judgement}
use Rattle.ps_verify.specs.declared.judgement.Judgement.TheVariants.{Wins, Loses}

-- a formula; the names of its propositions; and the indices of the controllable ones, which a controller sets
pub record NamedFormula : Type 0 where
  pub names : List (List ℕ)
  pub controllable : List ℕ
  pub formula : Formula

-- ## Words

-- the word of a stem and a lap satisfies the formula at its first index
abbrev pub IsSatisfied : NamedFormula → (stem lap : List ℕ) → Type 0
IsSatisfied f stem lap = Satisfies f.formula (lasso_word stem lap) 0

abbrev pub AllSatisfied : NamedFormula → CircuitData → Type 0
AllSatisfied f c = (stem lap : List ℕ) → IsLassoWord f.names c stem lap → IsSatisfied f stem lap

abbrev pub NoneSatisfied : NamedFormula → CircuitData → Type 0
NoneSatisfied f c = (stem lap : List ℕ) → IsLassoWord f.names c stem lap → ¬ IsSatisfied f stem lap

-- ## Meetings

-- the word of the lasso trace that is the joint run of the circuit and the controller violates the formula
pub record IsViolated (f : NamedFormula) (c : CircuitData) (k : FiniteController) : Type 0 where
  pub meeting : MeetsInLasso c k
  pub stem_letters : List ℕ
  pub lap_letters : List ℕ
  pub stem_are : AreLetters f.names c meeting.stem stem_letters
  pub lap_are : AreLetters f.names c meeting.lap lap_letters
  pub violated : ¬ IsSatisfied f stem_letters lap_letters

-- a circuit and a controller have exactly one joint trace of each length, and the word of their joint lasso trace
-- violates the formula
pub record LosesMeetingFor (f : NamedFormula) (c : CircuitData) (k : FiniteController) : Type 0 where
  pub one : (count : ℕ) → IsOneMeeting c k count
  pub violated : IsViolated f c k

-- ## Judgements

-- The names of the circuit's inputs and outputs are those of its role. If the circuit's player moves first, the outputs
-- do not depend on the inputs at latch values that a trace reaches. All lasso traces of a controller's circuit satisfy
-- the formula, and no lasso trace of an environment's circuit does.
pub record IsWinningFor (order : Order) (role : Role) (f : NamedFormula) (c : CircuitData) : Type 0 where
  pub symbols : HasSymbols role f.names f.controllable c
  pub in_time : IsInTimeWhereReached order role c
  pub satisfied : role ≡ Controller → AllSatisfied f c
  pub violated : role ≡ Environment → NoneSatisfied f c
  -- Each periodic input extends to a lasso trace, and exactly one list of letters belongs to each trace. So the circuit
  -- has at least one lasso word, and what the fields `satisfied` and `violated` state is not vacuous. An environment's
  -- circuit has a joint run with each finite-state controller, and the word of this run violates the formula.
  pub goes_on : EachInputGoesOn c
  pub letters : (moments : List Moment) → HasLetters f.names c moments
  pub meetings : role ≡ Environment → (k : FiniteController) → IsController order c k → LosesMeetingFor f c k

-- The stimulus is a counterexample. Some lasso trace of the circuit reads the stimulus. The word of each such trace
-- violates the formula, if the circuit is a controller, and satisfies it, if the circuit is an environment.
pub record IsLosingFor (order : Order) (role : Role) (f : NamedFormula) (c : CircuitData) (s : StimulusData) :
    Type 0 where
  pub symbols : HasSymbols role f.names f.controllable c
  pub in_time : IsInTimeWhereReached order role c
  pub wide : AreWide c s.stem s.lap
  pub some : 0 < length s.lap
  pub word : TraceWordData
  pub is_word : IsWordOn f.names c s word.stem word.lap
  pub is_wrong : (stem lap : List ℕ) → IsWordOn f.names c s stem lap →
      IsSatisfied f stem lap ↔ (role ≡ Environment)

abbrev pub IsJudgementFor : Order → Role → NamedFormula → CircuitData → Judgement → Type 0
IsJudgementFor order role f c Wins = IsWinningFor order role f c
IsJudgementFor order role f c (Loses stimulus) = IsLosingFor order role f c stimulus
