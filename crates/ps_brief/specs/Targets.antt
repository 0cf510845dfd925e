-- The targets of a state: the keys to which it has a step, each with a diagram of the first player's letters behind
-- which the second player can make this step. No class of letters occurs here.
-- - `IsTarget setting t q target`: `target` is a target of the state q; its diagram is in the store t
-- - `AreTargetsOf setting t targets`: all targets of a state, in the order of the least letters that lead there
use Rattle.std.specs.Prelude.{◌≡◌, ◌↔◌, ℕ, ◌<◌, ◌≤◌, List, length, map, IsSome}
use Rattle.std.specs.List.{All}
use Rattle.ps_diagram.specs.Letters.{AgreeOff}
use Rattle.ps_diagram.specs.Table.{Table, IsNode, leaf_of}
use Rattle.ps_automaton.specs.Automata.{pair_of}
use Rattle.ps_machine.specs.Boards.{IsFirstLetter}
use Rattle.ps_machine.specs.declared.key.Key.{Key}
use Rattle.ps_machine.specs.declared.key.Key.TheVariants.{First}
use Rattle.ps_basis.specs.Bases.{CanGoTo}
use Rattle.ps_basis.specs.Listing.{AreTargets}
use Rattle.ps_brief.specs.Settings.{board_in}
use Rattle.ps_brief.specs.declared.setting.Setting.{Setting}
use Rattle.ps_brief.specs.declared.steps.Target.{Target}
use Rattle.ps_brief.specs.declared.steps.Targets.{Targets}

-- the leaf is the index of the automaton's step. The diagram `behind` has a leaf at a letter of the first player
-- exactly if the second player can make the step behind this letter; it does not depend on the second player's
-- propositions
pub record IsTarget (setting : Setting) (t : Table) (q : ℕ) (target : Target) : Type 0 where
  pub within : target.leaf < length setting.automaton.now.steps
  pub step : pair_of setting.automaton.now target.leaf ≡
      record { state = target.state; priority = target.priority }
  pub held : IsNode t target.behind
  pub others : (u v : ℕ) → AgreeOff setting.second u v → leaf_of t target.behind u ≡ leaf_of t target.behind v
  pub is : (x : ℕ) → IsFirstLetter (board_in setting) x → IsSome (leaf_of t target.behind x) ↔
      CanGoTo (board_in setting) q x target.state target.priority

abbrev pub target_keys : List Target → List Key
target_keys targets = map (λ (target : Target). First target.state target.priority) targets

pub record AreTargetsOf (setting : Setting) (t : Table) (targets : Targets) : Type 0 where
  pub state : targets.state ≤ setting.automaton.now.states
  pub each : All (IsTarget setting t targets.state) targets.list.items
  pub listed : AreTargets (board_in setting) targets.state (target_keys targets.list.items)
