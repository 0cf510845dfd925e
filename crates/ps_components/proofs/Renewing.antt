-- A new search that reuses the tables of an old one: each vertex that the old search finished gets the status `Unseen`.
use Rattle.std.proofs.Common.{◌≡◌, ◌≢◌, ℕ, ◌+◌, ◌<◌, ◌≤◌, ◌⊎◌, List, length, arith, Some, slice_get, set, All}
use Rattle.std.proofs.lemmas.List.{length-set}
use Rattle.std.proofs.lemmas.Option.{slice_get_within, slice_get-get_or}
use Rattle.ps_components.specs.declared.statuses.Status.{Status}
use Rattle.ps_components.specs.declared.statuses.Status.TheVariants.{Unseen}
use Rattle.ps_components.proofs.Places.{slice_get-set_cases}

-- each vertex that is not `Unseen` is in the list of finished vertices at index n or later
pub record AreListedFrom (statuses : List Status) (order : List ℕ) (n : ℕ) : Type 0 where
  pub within : (i v : ℕ) → slice_get order i ≡ Some v → v < length statuses
  pub listed : (v : ℕ) (m : Status) → slice_get statuses v ≡ Some m →
      (m ≡ Unseen) ⊎ ((i : ℕ) × (n ≤ i) × (slice_get order i ≡ Some v))

later : (order : List ℕ) {n item v i : ℕ} → slice_get order n ≡ Some item → v ≢ item → n ≤ i →
    slice_get order i ≡ Some v → n + 1 ≤ i
later order here apart least at = grind arith

pub listed_next : {statuses : List Status} {order : List ℕ} {n item : ℕ} → slice_get order n ≡ Some item →
    AreListedFrom statuses order n → AreListedFrom (set statuses item Unseen) order (n + 1)
listed_next {statuses} {order} {n} {item} here so_far = grind (arith, length-set, slice_get-set_cases, later)

pub listed_last : {statuses : List Status} {order : List ℕ} {n : ℕ} → length order ≤ n →
    AreListedFrom statuses order n →
    All (λ m. m ≡ Unseen) statuses
listed_last {statuses} {order} all so_far k d within = grind (arith, slice_get-get_or, slice_get_within)
