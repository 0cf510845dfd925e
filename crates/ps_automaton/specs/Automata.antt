-- The definitions by which contracts describe an `Automaton`, the result of `Automaton::build`. The automaton's steps
-- are in decision diagrams, one for each state and one for the sink.
-- - `step_of a q letter`: the step from the state q (or from the sink) by the letter
-- - `auto_of a`: the automaton as an `Auto`, whose functions give the next state and the priority of each step
-- - `IsBuiltFrom file chain a`: a is the automaton of the file, whose acceptance condition is the chain
use Rattle.std.specs.Prelude.{◌≡◌, ℕ, ◌+◌, ◌<◌, ◌≤◌, List, length, Some, IsSomeAnd, slice_index, slice_index_or}
use Rattle.std.specs.Option.{unwrap_or}
use Rattle.ps_diagram.specs.Table.{Table, IsNode, leaf_of}
use Rattle.ps_hoa.specs.Files.{FileData}
use Rattle.ps_hoa.specs.Sound.{AreBelow, AreNames}
use Rattle.ps_automaton.specs.Chains.{Chain, chain_of}
use Rattle.ps_automaton.specs.Autos.{Auto, IsAutoOf}
use Rattle.ps_automaton.specs.declared.step.Step.{Step}

-- the abstract value of an `Automaton`; its sink is the state whose number equals the count of states
pub record AutomatonData : Type 0 where
  pub names : List (List ℕ)
  pub controllable : List ℕ
  pub states : ℕ
  pub start : ℕ
  pub store : Table
  pub nodes : List ℕ
  pub steps : List Step

abbrev pub node_of : AutomatonData → ℕ → ℕ
node_of a q = slice_index a.nodes q

-- the step whose index is the given leaf of a diagram
abbrev pub pair_of : AutomatonData → ℕ → Step
pair_of a leaf = slice_index_or a.steps leaf (record { state = a.states; priority = 1 })

abbrev pub step_of : AutomatonData → ℕ → ℕ → Step
step_of a q letter = pair_of a (unwrap_or (leaf_of a.store (node_of a q) letter) (length a.steps))

abbrev pub auto_of : AutomatonData → Auto
auto_of a =
    record {
      start = a.start;
      next = λ q letter. (step_of a q letter).state;
      priority = λ q letter. (step_of a q letter).priority;
    }

-- An automaton has at most 64 propositions, whose names differ. In each state's diagram, each letter leads to a leaf,
-- which is the index of a step; different leaves stand for different steps.
pub record IsWhole (a : AutomatonData) : Type 0 where
  pub few_names : length a.names ≤ 64
  pub are_names : AreNames a.names
  pub owned : AreBelow (length a.names) a.controllable
  pub letters : a.store.propositions ≡ length a.names
  pub start : a.start < a.states
  pub nodes : length a.nodes ≡ a.states + 1
  pub held : (q : ℕ) → q ≤ a.states → IsNode a.store (node_of a q)
  pub leaves : (q letter : ℕ) → q ≤ a.states → IsSomeAnd (leaf_of a.store (node_of a q) letter)
      (λ leaf. leaf < length a.steps)
  pub targets : (leaf : ℕ) → leaf < length a.steps → (pair_of a leaf).state ≤ a.states
  pub once : (one other : ℕ) → one < length a.steps → other < length a.steps →
      pair_of a one ≡ pair_of a other → one ≡ other

pub record IsBuiltFrom (file : FileData) (chain : Chain) (a : AutomatonData) : Type 0 where
  pub names : a.names ≡ file.names
  pub controllable : a.controllable ≡ file.controllable
  pub states : a.states ≡ file.states
  pub is_chain : chain_of file.condition ≡ Some chain
  pub auto : IsAutoOf file chain (auto_of a)
