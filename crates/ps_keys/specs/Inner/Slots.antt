-- The slots of a table: where a search for a key looks, and what a slot holds. (For private functions.)
use Rattle.std.specs.Prelude.{◌≡◌, ◌≢◌, ℕ, ◌+◌, ◌-◌, ◌/◌, ◌%◌, ◌^◌, ◌<◌, ◌≤◌, List, length, slice_index, bit_and}
use Rattle.std.specs.Prelude.{count_by, nat_eq, not}

-- the tag of a hash in a table with so many slots: the upper half of the hash, without the bits of a key's index
unfoldable pub tag_of : (hash size : ℕ) → ℕ
tag_of hash size = bit_and (hash / 2 ^ 32) (2 ^ 32 - 1 - (size - 1))

-- the index of the slot that a search for a hash visits after it has passed so many slots, of `size` slots in all
unfoldable pub nth_slot : (hash passed size : ℕ) → ℕ
nth_slot hash passed size = bit_and ((hash + passed) % 2 ^ 64) (size - 1)

-- what this slot holds
abbrev pub nth_entry : (slots : List ℕ) → (hash passed : ℕ) → ℕ
nth_entry slots hash passed = slice_index slots (nth_slot hash passed (length slots))

-- the entry of the key with the index `place`
abbrev pub entry_of : (slots : List ℕ) → (hash place : ℕ) → ℕ
entry_of slots hash place = tag_of hash (length slots) + (place + 1)

-- a search for the hash passes so many slots, none of which is empty
pub record Passes (slots : List ℕ) (hash passed : ℕ) : Type 0 where
  pub none_empty : (e : ℕ) → e < passed → nth_entry slots hash e ≢ 0

-- a search for the hash passes so many slots, and then comes to the entry of the key with the index `place`
pub record Reaches (slots : List ℕ) (hash place passed : ℕ) : Type 0 where
  pub entry : nth_entry slots hash passed ≡ entry_of slots hash place
  pub passes : Passes slots hash passed

-- a search for the hash passes so many slots, and then comes to the empty slot with the index `slot`
pub record Ends (slots : List ℕ) (hash passed slot : ℕ) : Type 0 where
  pub within : passed < length slots
  pub is : slot ≡ nth_slot hash passed (length slots)
  pub empty : nth_entry slots hash passed ≡ 0
  pub passes : Passes slots hash passed

-- a number of slots: a power of two, at most 2 ^ 32
pub record IsPower (size : ℕ) : Type 0 where
  pub bits : ℕ
  pub few : bits ≤ 32
  pub is : size ≡ 2 ^ bits

-- how many slots are not empty
abbrev pub used_slots : List ℕ → ℕ
used_slots slots = count_by (λ entry. not (nat_eq entry 0)) slots

-- a slot is empty, and a search for any hash comes to each slot, since the number of slots is a power of two
pub record HasEmpty (slots : List ℕ) : Type 0 where
  pub power : IsPower (length slots)
  pub fewer : used_slots slots < length slots
