use Rattle.std.proofs.Common.{◌≡◌, ℕ, ◌≤◌, List, Some, length}
use Rattle.std.specs.List.{slice_get}
use Rattle.ps_hoa.specs.Files.{EdgeData}
use Rattle.ps_hoa.specs.Views.{row_data}
use Rattle.ps_automaton.specs.Inner.Drafts.{AreSteps, Extends}
use Rattle.ps_automaton.specs.Inner.Views.{chain_data}
use Rattle.ps_automaton.specs.declared.targets.Target.{Target}
use Rattle.ps_automaton.proofs.EdgesAtLetters.LetterRows.{HaveTargets}
use Rattle.ps_automaton.proofs.StepsByState.Steps.{AreNamed}
use Rattle.ps_automaton.proofs.draft.places_of_edges.Given as goal

-- for each edge visited so far, `places` has the index of the step to its target
abbrev pub invariant-loop-edge : goal.invariant-loop-edge
invariant-loop-edge l = record {
  extends : Extends l.fn.steps l.steps;
  within : (states : ℕ) → ((k : ℕ) (edge : EdgeData) → slice_get (row_data l.row).edges k ≡ Some edge →
      edge.target ≤ states) → AreSteps states l.fn.steps → AreSteps states l.steps;
  so_far : length l.places.items ≡ l.edge-index;
  named : (targets : List Target) × (length targets ≡ l.edge-index) × HaveTargets (row_data l.row) l.edge-index targets
      × AreNamed (chain_data l.levels.chain) targets l.steps l.places.items;
}
