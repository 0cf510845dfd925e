use Rattle.std.proofs.Common.{◌≡◌, ℕ, ◌≤◌, Some, length}
use Rattle.std.specs.List.{slice_get}
use Rattle.ps_automaton.specs.Inner.Drafts.{AreSteps, Extends, step_of_target}
use Rattle.ps_automaton.specs.Inner.Views.{chain_data}
use Rattle.ps_automaton.specs.declared.targets.Target.{Target}
use Rattle.ps_automaton.proofs.draft.places_of.Given as goal

-- for each target visited so far, `places` has the index of the step to this target
abbrev pub invariant-loop-target : goal.invariant-loop-target
invariant-loop-target l = record {
  extends : Extends l.fn.steps l.steps;
  within : (states : ℕ) → ((k : ℕ) (target : Target) → slice_get l.targets k ≡ Some target → target.state ≤ states) →
      AreSteps states l.fn.steps → AreSteps states l.steps;
  so_far : length l.places.items ≡ l.target-index;
  each : (k place : ℕ) (target : Target) → slice_get l.targets k ≡ Some target →
      slice_get l.places.items k ≡ Some place → slice_get l.steps place ≡ Some
      (step_of_target (chain_data l.levels.chain) target);
}
