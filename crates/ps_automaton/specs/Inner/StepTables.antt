-- A list of different steps, in which the steps to one state are chained. (For private functions.)
use Rattle.std.specs.Prelude.{◌≡◌, ℕ, ◌+◌, ◌<◌, ◌≤◌, List, Some, length, slice_get, slice_index}
use Rattle.ps_automaton.specs.Inner.Places.{AreDistinct}
use Rattle.ps_automaton.specs.declared.step.Step.{Step}

-- of the first n steps, the step before the index `count` is the last that leads to the state; if `count` is 0, none
-- of them leads there
pub record IsCount (steps : List Step) (state n count : ℕ) : Type 0 where
  pub within : count ≤ n
  pub leads : (place : ℕ) (step : Step) → place + 1 ≡ count → slice_get steps place ≡ Some step → step.state ≡ state
  pub none : (place : ℕ) (step : Step) → count ≤ place → place < n → slice_get steps place ≡ Some step →
      step.state ≡ state → ⊥

-- for each step, the table has the count of the steps up to the previous step that leads to the same state
pub record ArePrevious (steps : List Step) (previous : List ℕ) : Type 0 where
  pub one_each : length previous ≡ length steps
  pub each : (place : ℕ) (step : Step) → slice_get steps place ≡ Some step →
      IsCount steps step.state place (slice_index previous place)

pub record IsStepTable (steps : List Step) (last previous : List ℕ) : Type 0 where
  pub distinct : AreDistinct steps
  pub counts : (state : ℕ) → IsCount steps state (length steps) (slice_index last state)
  pub chained : ArePrevious steps previous
