-- How a program can list the first player's keys in the order of the game (`IsInOrder`), if it knows, for each state,
-- the keys to which the state has a step, in the order of the least letters that lead there.
-- - `AreTargets board q targets`: `targets` are those keys
-- - `AddsNew keys targets more`: `more` are the targets that are not in the list, in their order
-- - `IsListedUpTo board n keys`: the first n keys of the list were visited one after another; where the state was new,
--   its targets were added that the list did not have
use Rattle.std.specs.Prelude.{◌≡◌, ◌≢◌, ℕ, suc, ◌<◌, ◌⊎◌, List, [], ◌∷◌, ◌++◌}
use Rattle.std.specs.List.{AllPairs, Contains}
use Rattle.ps_diagram.specs.Letters.{IsBefore}
use Rattle.ps_machine.specs.Boards.{Board}
use Rattle.ps_machine.specs.Numbering.{StandsAt}
use Rattle.ps_machine.specs.declared.key.Key.{Key}
use Rattle.ps_machine.specs.declared.key.Key.TheVariants.{First}
use Rattle.ps_basis.specs.PairOrder.{HasStepTo, IsLeastStep}

-- the least letters that lead from the state q to r and s come before those that lead to t and o
pub record IsSooner (board : Board) (q r s t o : ℕ) : Type 0 where
  pub x : ℕ
  pub y : ℕ
  pub z : ℕ
  pub w : ℕ
  pub one : IsLeastStep board q r s x y
  pub other : IsLeastStep board q t o z w
  pub order : IsBefore x z ⊎ ((x ≡ z) × IsBefore y w)

pub record AreTargets (board : Board) (q : ℕ) (targets : List Key) : Type 0 where
  pub each : (key : Key) → Contains targets key → (r : ℕ) × (s : ℕ) × (key ≡ First r s) × HasStepTo board q r s
  pub complete : (r s : ℕ) → HasStepTo board q r s → Contains targets (First r s)
  pub rising : (i j r s t o : ℕ) → i < j → StandsAt targets i (First r s) → StandsAt targets j (First t o) →
      IsSooner board q r s t o

pub record AddsNew (keys targets more : List Key) : Type 0 where
  pub each : (key : Key) → Contains more key → Contains targets key × ¬ Contains keys key
  pub whole : (key : Key) → Contains targets key → Contains keys key ⊎ Contains more key
  pub different : AllPairs (λ x y. x ≢ y) more
  pub rising : (i j k l : ℕ) (x y : Key) → i < j → StandsAt more i x → StandsAt more j y → StandsAt targets k x →
      StandsAt targets l y → k < l

pub data IsListedUpTo (board : Board) : ℕ → List Key → Type 0 where
  begun : IsListedUpTo board 0 (First board.auto.start 0 ∷ [])
  visited : {n : ℕ} {keys : List Key} {q p : ℕ} {targets more : List Key} → IsListedUpTo board n keys →
      StandsAt keys n (First q p) → AreTargets board q targets → AddsNew keys targets more →
      IsListedUpTo board (suc n) (keys ++ more)
  passed : {n : ℕ} {keys : List Key} {k q p o : ℕ} → IsListedUpTo board n keys → StandsAt keys n (First q p) → k < n →
      StandsAt keys k (First q o) → IsListedUpTo board (suc n) keys
