-- Lists of vertices, and a row of edges for each of the first ones, that grow while a product is explored. The number
-- of the vertex to which an edge leads is `to edge`.
use Rattle.std.specs.Prelude.{◌≡◌, ◌⊎◌, ℕ, ◌<◌, List, [], Some, length, slice_get, slice_index_or}
use Rattle.ps_product.specs.Words.{HasGrown}

-- some edge of an earlier vertex leads to the vertex i
pub record IsLedInto {X : Type 0} (to : X → ℕ) (rows : List (List X)) (i : ℕ) : Type 0 where
  pub from : ℕ
  pub earlier : from < i
  pub within : from < length rows
  pub place : ℕ
  pub edge : X
  pub there : slice_get (slice_index_or rows from []) place ≡ Some edge
  pub leads : to edge ≡ i

-- the vertices grow by those to which edges of the row lead
pub record GrowsBy {V X : Type 0} (to : X → ℕ) (old new : List V) (row : List X) : Type 0 where
  pub grown : HasGrown old new
  pub from : (i : ℕ) (v : V) → slice_get new i ≡ Some v →
      (slice_get old i ≡ Some v) ⊎ ((k : ℕ) × (x : X) × (slice_get row k ≡ Some x) × (to x ≡ i))
