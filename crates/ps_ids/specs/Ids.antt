-- Distinct ids, and the tables that record the indices of some of them.
use Rattle.std.specs.Prelude.{◌≡◌, ◌≢◌, ◌==◌, ◌+◌, ◌-◌, ◌<◌, ◌≤◌, ◌⊎◌, ℕ, List, length, position, Option, Some}
use Rattle.std.specs.Prelude.{slice_index}
use Rattle.std.specs.Option.{unwrap_or}
use Rattle.std.specs.List.{AllPairs}

abbrev pub AreDistinct : List ℕ → Type 0
AreDistinct ids = AllPairs (λ x y. x ≢ y) ids

-- the index of an id in the list of all ids; 0 for a number that is not an id
abbrev pub place_of : List ℕ → ℕ → ℕ
place_of ids id = unwrap_or (position (λ other. id == other) ids) 0

-- an id's own index: its distance from `first`, which is its index in a list that begins with `first` and counts up by
-- one; 0 for a number less than `first`
abbrev pub own_place : ℕ → ℕ → ℕ
own_place first id = id - first

-- The index `place` of an id is the id's distance from `first`, or is recorded in the table at this distance, or is
-- recorded in the tree for the id. An entry of the table is one more than the index that it records, or 0 if it records
-- no index.
abbrev pub IsRecordedAt : (first : ℕ) (near : List ℕ) (far : ℕ → Option ℕ) (id place : ℕ) → Type 0
IsRecordedAt first near far id place = (own_place first id ≡ place) ⊎
    (((first ≤ id) × (slice_index near (own_place first id) ≡ place + 1)) ⊎ (far id ≡ Some place))

-- the ids are distinct, and the index of each id is recorded; if the table `near` or the tree `far` records an index
-- for a number, the list has the number at this index
pub record IsIdTable (first : ℕ) (ids near : List ℕ) (far : ℕ → Option ℕ) : Type 0 where
  pub distinct : AreDistinct ids
  pub sound : (id place : ℕ) → far id ≡ Some place → (place < length ids) × (slice_index ids place ≡ id)
  pub near_sound : (k place : ℕ) → slice_index near k ≡ place + 1 → (place < length ids) ×
      (slice_index ids place ≡ first + k)
  pub whole : (place : ℕ) → place < length ids → IsRecordedAt first near far (slice_index ids place) place

-- the new table and tree record the index `place` of the id, keep what was recorded for other ids, and have no other
-- new entry
pub record KeepsPlace (first : ℕ) (old_near new_near : List ℕ) (old new : ℕ → Option ℕ) (id place : ℕ) : Type 0 where
  pub kept : IsRecordedAt first new_near new id place
  pub others : (q p : ℕ) → q ≢ id → IsRecordedAt first old_near old q p → IsRecordedAt first new_near new q p
  pub sound : (q p : ℕ) → new q ≡ Some p → ((q ≡ id) × (p ≡ place)) ⊎ (old q ≡ Some p)
  pub near_sound : (k p : ℕ) → slice_index new_near k ≡ p + 1 → ((first + k ≡ id) × (p ≡ place)) ⊎
      (slice_index old_near k ≡ p + 1)
