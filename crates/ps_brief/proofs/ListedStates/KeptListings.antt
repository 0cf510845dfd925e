-- A listing stays one when a store gets more nodes.
-- - `listing_kept`: so it does
-- - `state_known`, `targets_there`: it has the targets of each listed state
-- - `listed_within`: each listed state is one of the automaton's, or the sink
use Rattle.std.specs.Prelude.{◌≡◌, ℕ, ◌≤◌, nat_eq, Option, Some, None, IsSome, IsSomeAnd}
use Rattle.std.specs.List.{Contains}
use Rattle.std.proofs.Common.{subst, refl}
use Rattle.indexmap.specs.IndexMap.{get}
use Rattle.ps_diagram.specs.Table.{Table, Keeps}
use Rattle.ps_machine.specs.declared.key.Key.TheVariants.{First}
use Rattle.ps_brief.specs.Listings.{AreTargetsAt, IsListing, listed_keys}
use Rattle.ps_brief.specs.declared.listing.Listing.{Listing}
use Rattle.ps_brief.specs.declared.setting.Setting.{Setting}
use Rattle.ps_brief.specs.declared.steps.Targets.{Targets}
use Rattle.ps_brief.proofs.ListedStates.KeptTargets.{fits_kept, targets_kept}

some_kept : (setting : Setting) {s t : Table} (q : ℕ) (o : Option Targets) → Keeps s t →
    IsSomeAnd o (AreTargetsAt setting s q) → IsSomeAnd o (AreTargetsAt setting t q)
some_kept setting q None keeps holds = holds
some_kept setting q (Some x) keeps holds = record {
  state = holds.state;
  are = targets_kept setting keeps holds.are;
}

pub listing_kept : (setting : Setting) {s t : Table} {listing : Listing} → Keeps s t → IsListing setting s listing →
    IsListing setting t listing
listing_kept setting {listing = listing} keeps is = record {
  fits = fits_kept setting keeps is.fits;
  listed = is.listed;
  targets = λ q p inside. some_kept setting q (get nat_eq listing.targets q) keeps (is.targets q p inside);
  only = is.only;
}

is_there : (P : Targets → Type 0) (o : Option Targets) → IsSomeAnd o P → IsSome o
is_there P None holds = absurd holds
is_there P (Some x) holds = refl

is_at : (P : Targets → Type 0) (o : Option Targets) (x : Targets) → IsSomeAnd o P → o ≡ Some x → P x
is_at P None x holds at = absurd holds
is_at P (Some y) x holds at = let same : y ≡ x = cc in subst P same holds

some_within : (setting : Setting) (t : Table) (q : ℕ) (o : Option Targets) → IsSomeAnd o (AreTargetsAt setting t q) →
    q ≤ setting.automaton.now.states
some_within setting t q None holds = absurd holds
some_within setting t q (Some x) holds =
    subst (λ (r : ℕ). r ≤ setting.automaton.now.states) holds.state holds.are.state

pub listed_within : (setting : Setting) {t : Table} {listing : Listing} → IsListing setting t listing →
    (q p : ℕ) → Contains (listed_keys listing) (First q p) → q ≤ setting.automaton.now.states
listed_within setting {t} {listing} is q p inside =
    some_within setting t q (get nat_eq listing.targets q) (is.targets q p inside)

module _ (setting : Setting) {t : Table} {listing : Listing} (is : IsListing setting t listing) (q p : ℕ)
    (inside : Contains (listed_keys listing) (First q p)) where
  pub state_known : IsSome (get nat_eq listing.targets q)
  state_known = is_there (AreTargetsAt setting t q) (get nat_eq listing.targets q) (is.targets q p inside)

  pub targets_there : (targets : Targets) → get nat_eq listing.targets q ≡ Some targets →
      AreTargetsAt setting t q targets
  targets_there targets at =
      is_at (AreTargetsAt setting t q) (get nat_eq listing.targets q) targets (is.targets q p inside) at
