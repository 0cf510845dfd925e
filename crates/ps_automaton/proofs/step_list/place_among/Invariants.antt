use Rattle.std.proofs.Common.{◌≡◌, ◌≤◌, ◌+◌, ℕ, Some, length}
use Rattle.std.specs.List.{slice_get}
use Rattle.ps_automaton.specs.declared.step.Step.{Step}
use Rattle.ps_automaton.proofs.step_list.place_among.Given as goal

-- the last of the first `count` steps leads to the same state, and the step is not among the others
abbrev pub invariant-loop-count : goal.invariant-loop-count
invariant-loop-count l = record {
  within : l.count ≤ length l.list;
  leads : (place : ℕ) (step : Step) → place + 1 ≡ l.count → slice_get l.list place ≡ Some step →
      step.state ≡ l.step.state;
  none : (place : ℕ) → l.count ≤ place → slice_get l.list place ≡ Some l.step → ⊥;
}

abbrev pub decreases-loop-count : goal.decreases-loop-count
decreases-loop-count l = l.count
