-- Tables of the keys of a list, and searches in them. (For private functions.)
use Rattle.std.specs.Prelude.{◌≡◌, ℕ, ◌*◌, ◌^◌, ◌<◌, ◌≤◌, Bool, true, false, List, IfSome, length, slice_index_or}
use Rattle.ps_keys.specs.declared.table.Free.{Free}
use Rattle.ps_keys.specs.declared.table.Sought.{Sought}
use Rattle.ps_keys.specs.declared.table.Sought.TheVariants.{Found, Missing}
use Rattle.ps_keys.specs.declared.table.Table.{Table}
use Rattle.ps_keys.specs.Inner.Slots.{Reaches, Ends, IsPower, used_slots}
use Rattle.ps_keys.specs.Keys.{LacksFrom}

-- so many slots are enough for n keys: at most five eighths of the slots are then used
abbrev pub HasRoom : (n size : ℕ) → Type 0
HasRoom n size = 8 * n ≤ 5 * size

-- The table has the first n keys of the list: a search for the hash of each of them comes to its entry, and passes
-- fewer slots than the table's reach. No slot is used for anything else.
pub record HasKeys {K : Type 0} (hash : ℕ → K → ℕ) (list : List K) (n : ℕ) (t : Table) : Type 0 where
  pub few : length t.slots.items ≤ 2 ^ 32
  pub power : 0 < length t.slots.items → IsPower (length t.slots.items)
  pub room : HasRoom n (length t.slots.items)
  pub used : used_slots t.slots.items ≤ n
  pub short : t.reach ≤ length t.slots.items
  pub each : (j : ℕ) (d : K) → j < n →
      (passed : ℕ) × (passed < t.reach) × Reaches t.slots.items (hash t.seed (slice_index_or list j d)) j passed

-- no two keys of the list are equal
pub record AreDifferent {K : Type 0} (eq : K → K → Bool) (list : List K) : Type 0 where
  pub each : (i j : ℕ) (d : K) → i < j → j < length list →
      eq (slice_index_or list i d) (slice_index_or list j d) ≡ false

-- the table has all keys of the list, no two of which are equal
pub record IsTableOf {K : Type 0} (hash : ℕ → K → ℕ) (eq : K → K → Bool) (list : List K) (t : Table) : Type 0 where
  pub keys : HasKeys hash list (length list) t
  pub different : AreDifferent eq list

-- the given slot is an empty one, to which a search for the key comes
pub record IsFree {K : Type 0} (hash : ℕ → K → ℕ) (t : Table) (key : K) (free : Free) : Type 0 where
  pub hash_is : free.hash ≡ hash t.seed key
  pub ends : Ends t.slots.items free.hash free.passed free.slot

-- an equal key was found at an index of the list, or the list lacks the key
abbrev pub IsSought : {K : Type 0} → (hash : ℕ → K → ℕ) → (K → K → Bool) → List K → Table → K → Sought → Type 0
IsSought {K} hash eq list t key (Found place) = (place < length list) ×
    ((d : K) → eq (slice_index_or list place d) key ≡ true)
IsSought hash eq list t key (Missing free) = LacksFrom eq list 0 key × IfSome free (IsFree hash t key)
