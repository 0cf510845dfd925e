-- Bases that are found for one key of a listing after another. (For private functions.)
-- - `IsFinding setting listing bases n`: the states of the first n keys have bases, and no state has one that is in no
--   key
use Rattle.std.specs.Prelude.{ℕ, ◌<◌, nat_eq, IfSome, IsSome}
use Rattle.std.specs.List.{Contains}
use Rattle.indexmap.specs.IndexMap.{get}
use Rattle.ps_machine.specs.Boards.{Board}
use Rattle.ps_machine.specs.Numbering.{StandsAt}
use Rattle.ps_machine.specs.declared.key.Key.TheVariants.{First}
use Rattle.ps_basis.specs.Bases.{IsBasis}
use Rattle.ps_brief.specs.Listings.{listed_keys}
use Rattle.ps_brief.specs.Settings.{board_in}
use Rattle.ps_brief.specs.declared.bases.Bases.{Bases}
use Rattle.ps_brief.specs.declared.bases.Basis.{Basis}
use Rattle.ps_brief.specs.declared.listing.Listing.{Listing}
use Rattle.ps_brief.specs.declared.setting.Setting.{Setting}

abbrev pub IsBasisAt : Board → ℕ → Basis → Type 0
IsBasisAt board q basis = IsBasis board q basis.letters.items

pub record IsFinding (setting : Setting) (listing : Listing) (bases : Bases) (n : ℕ) : Type 0 where
  pub each : (q : ℕ) → IfSome (get nat_eq bases.of q) (IsBasisAt (board_in setting) q)
  pub only : (q : ℕ) → IsSome (get nat_eq bases.of q) → (p : ℕ) × Contains (listed_keys listing) (First q p)
  pub visited : (k q p : ℕ) → k < n → StandsAt (listed_keys listing) k (First q p) → IsSome (get nat_eq bases.of q)
