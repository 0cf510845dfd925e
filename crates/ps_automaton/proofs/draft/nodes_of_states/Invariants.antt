use Rattle.std.proofs.Common.{◌≡◌, ℕ, ◌<◌, length, get_or}
use Rattle.ps_diagram.specs.Labels.{AreNodesOf}
use Rattle.ps_automaton.specs.Inner.Drafts.{AreSteps, IsStepsOf}
use Rattle.ps_automaton.specs.Inner.Views.{chain_data}
use Rattle.ps_automaton.proofs.draft.nodes_of_states.Given as goal

-- the diagrams of the states that were visited so far describe these states' steps
abbrev pub invariant-loop-state : goal.invariant-loop-state
invariant-loop-state l = record {
  letters : l.pairs.store.propositions ≡ length l.source.file.now.names;
  nodes_of : AreNodesOf l.pairs.store l.source.file.now.aliases l.source.aliases.now;
  all_steps : AreSteps l.source.file.now.states l.pairs.steps;
  count : length l.nodes.items ≡ l.state;
  each : (q : ℕ) → q < l.state → IsStepsOf l.source.file.now (chain_data l.source.levels.now.chain) q l.pairs.steps
      l.pairs.store (get_or l.nodes.items q 0);
}
