-- The first player's keys in the order of the game, with the targets of their states.
-- - `keys_of steps`: a key for each state and the priority by which it is entered
-- - `IsListing setting t listing`: the listing has all keys of the first player, in the order of the game, and the
--   targets of each of their states; the targets' diagrams are in the store t, which fits the setting
use Rattle.std.specs.Prelude.{◌≡◌, ℕ, List, length, map, nat_eq, IsSome, IsSomeAnd}
use Rattle.std.specs.List.{Contains}
use Rattle.indexmap.specs.IndexMap.{get}
use Rattle.ps_automaton.specs.declared.step.Step.{Step}
use Rattle.ps_diagram.specs.Table.{Table}
use Rattle.ps_machine.specs.declared.key.Key.{Key}
use Rattle.ps_machine.specs.declared.key.Key.TheVariants.{First}
use Rattle.ps_basis.specs.Listing.{IsListedUpTo}
use Rattle.ps_brief.specs.Settings.{Fits, board_in}
use Rattle.ps_brief.specs.Targets.{AreTargetsOf}
use Rattle.ps_brief.specs.declared.listing.Listing.{Listing}
use Rattle.ps_brief.specs.declared.setting.Setting.{Setting}
use Rattle.ps_brief.specs.declared.steps.Targets.{Targets}

abbrev pub keys_of : List Step → List Key
keys_of steps = map (λ (step : Step). First step.state step.priority) steps

abbrev pub listed_keys : Listing → List Key
listed_keys listing = keys_of listing.entered.keys

-- these targets are those of the state q
pub record AreTargetsAt (setting : Setting) (t : Table) (q : ℕ) (targets : Targets) : Type 0 where
  pub state : targets.state ≡ q
  pub are : AreTargetsOf setting t targets

pub record IsListing (setting : Setting) (t : Table) (listing : Listing) : Type 0 where
  pub fits : Fits setting t
  pub listed : IsListedUpTo (board_in setting) (length (listed_keys listing)) (listed_keys listing)
  pub targets : (q p : ℕ) → Contains (listed_keys listing) (First q p) →
      IsSomeAnd (get nat_eq listing.targets q) (AreTargetsAt setting t q)
  pub only : (q : ℕ) → IsSome (get nat_eq listing.targets q) → (p : ℕ) × Contains (listed_keys listing) (First q p)
