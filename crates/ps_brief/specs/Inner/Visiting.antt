-- Keys that are visited one after another. (For private functions.)
-- - `Adding old targets now`: to the keys of the old steps, those of the targets were added that are new
-- - `IsVisiting setting t listing n`: the first n keys were visited
use Rattle.std.specs.Prelude.{◌≡◌, ℕ, ◌<◌, ◌≤◌, List, ◌++◌, length, nat_eq, IfSome, IsSome}
use Rattle.indexmap.specs.IndexMap.{get}
use Rattle.ps_automaton.specs.declared.step.Step.{Step}
use Rattle.ps_diagram.specs.Table.{Table}
use Rattle.ps_machine.specs.Numbering.{StandsAt}
use Rattle.ps_machine.specs.declared.key.Key.{Key}
use Rattle.ps_machine.specs.declared.key.Key.TheVariants.{First}
use Rattle.ps_basis.specs.Listing.{AddsNew, IsListedUpTo}
use Rattle.ps_brief.specs.Listings.{AreTargetsAt, keys_of, listed_keys}
use Rattle.ps_brief.specs.Settings.{board_in}
use Rattle.ps_brief.specs.declared.listing.Listing.{Listing}
use Rattle.ps_brief.specs.declared.setting.Setting.{Setting}

pub record Adding (old : List Step) (targets : List Key) (now : List Step) : Type 0 where
  pub more : List Key
  pub keys : keys_of now ≡ keys_of old ++ more
  pub adds : AddsNew (keys_of old) targets more

-- one of the first n keys has the state q
pub record WasVisited (keys : List Key) (n q : ℕ) : Type 0 where
  pub index : ℕ
  pub priority : ℕ
  pub below : index < n
  pub stands : StandsAt keys index (First q priority)

pub record IsVisiting (setting : Setting) (t : Table) (listing : Listing) (n : ℕ) : Type 0 where
  pub listed : IsListedUpTo (board_in setting) n (listed_keys listing)
  pub long : n ≤ length (listed_keys listing)
  pub targets : (q : ℕ) → IfSome (get nat_eq listing.targets q) (AreTargetsAt setting t q)
  pub visited : (q : ℕ) → WasVisited (listed_keys listing) n q → IsSome (get nat_eq listing.targets q)
  pub only : (q : ℕ) → IsSome (get nat_eq listing.targets q) → WasVisited (listed_keys listing) n q
  pub within : (k q p : ℕ) → StandsAt (listed_keys listing) k (First q p) → q ≤ setting.automaton.now.states
