-- Lists of keys and the index of a key, and maps from keys to values.
use Rattle.std.specs.Prelude.{◌≡◌, ℕ, ◌+◌, ◌<◌, ◌≤◌, ◌⊎◌, Bool, true, false, cond, List, [], ◌∷◌, ◌++◌}
use Rattle.std.specs.Prelude.{IfOk, MatchOption, OnErr, Option, Some, None, Result, length, slice_index_or}
use Rattle.std.specs.Option.{is_some, option_or}

-- from the index n on, no key of the list equals the given key
abbrev pub LacksFrom : {K : Type 0} → (K → K → Bool) → List K → ℕ → K → Type 0
LacksFrom {K} eq list n key = (i : ℕ) (d : K) → n ≤ i → i < length list → eq (slice_index_or list i d) key ≡ false

-- the key at the index equals the given key, and no later key does; no index is given if no key equals the given key
abbrev pub IsLastEqual : {K : Type 0} → (K → K → Bool) → List K → K → Option ℕ → Type 0
IsLastEqual {K} eq list key found = MatchOption found (LacksFrom eq list 0 key)
    (λ place. (place < length list) × ((d : K) → eq (slice_index_or list place d) key ≡ true) ×
    LacksFrom eq list (place + 1) key)

-- the list has the key at the index, or the key was appended at this index because the list lacked it
abbrev pub IsPlacedKey : {K : Type 0} → (K → K → Bool) → List K → List K → K → ℕ → Type 0
IsPlacedKey {K} eq old new key place =
    ((new ≡ old) × (place < length old) × ((d : K) → eq (slice_index_or old place d) key ≡ true)) ⊎
    ((new ≡ old ++ key ∷ []) × (place ≡ length old) × LacksFrom eq old 0 key)

-- the result is the index of the key in the list, to which the key is appended if the list lacks it; a call that fails
-- changes nothing
abbrev pub PlacesKey : {K E : Type 0} → (K → K → Bool) → List K → List K → K → Result ℕ E → Type 0
PlacesKey eq old new key result = IfOk result (IsPlacedKey eq old new key) × OnErr result (new ≡ old)

-- the keys of a map, and the value of each
pub record Mapped (K V : Type 0) : Type 0 where
  pub keys : List K
  pub values : List V

-- the value of the last key with a property
abbrev pub last_value : {K V : Type 0} → (K → Bool) → List K → List V → Option V
last_value p [] values = None
last_value p (x ∷ xs) [] = None
last_value p (x ∷ xs) (v ∷ vs) = option_or (last_value p xs vs) (cond (p x) (Some v) None)

-- the value that a map has for a key, if it has one
abbrev pub value_for : {K V : Type 0} → (K → K → Bool) → Mapped K V → K → Option V
value_for eq map key = last_value (λ x. eq x key) map.keys map.values

-- a key that has no value in the old map has the value in the new one; everything else stays
abbrev pub GivesValue : {K V : Type 0} → (K → K → Bool) → Mapped K V → K → V → Mapped K V → Type 0
GivesValue {K} eq old key value new = (q : K) → value_for eq new q ≡ cond (is_some (value_for eq old key))
    (value_for eq old q) (cond (eq key q) (Some value) (value_for eq old q))
