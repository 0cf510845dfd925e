-- The inputs that the circuit reads along paths of the product of a circuit and an automaton.
-- - `ReadsEdge p v w inputs`: in a step along the edge from v to w, the circuit reads these inputs
-- - `ReadsPath p path letters`: the letters are the inputs of steps along the path, one for each edge
-- - `IsToldOf player p judgement`: if the judgement is `Wins`, the player wins all loops of the product. If the
--   judgement is `Loses`, the circuit reads the stimulus's stem on a path to a cycle that the player loses, and the lap
--   along this cycle.
use Rattle.std.specs.Prelude.{◌≡◌, ℕ, ◌+◌, ◌<◌, Bool, List, [], length, slice_get, slice_index, slice_index_or, Some}
use Rattle.ps_game.specs.Games.{successors_of}
use Rattle.ps_product.specs.Products.{ProductData, inputs_at}
use Rattle.ps_simulate.specs.Stimuli.{StimulusData}
use Rattle.ps_verify.specs.declared.judgement.Judgement.{Judgement}
use Rattle.ps_verify.specs.declared.judgement.Judgement.TheVariants.{Wins, Loses}
use Rattle.ps_verify.specs.Inner.Rounds.{IsLostRound, WinsLoops, round_of}
use Rattle.ps_verify.specs.Inner.Ways.{IsWayTo}

pub record ReadsEdge (p : ProductData) (v w : ℕ) (inputs : List Bool) : Type 0 where
  pub number : ℕ
  pub edge : slice_get (successors_of p.game v) number ≡ Some w
  pub inputs_are : inputs ≡ inputs_at p v number

pub record ReadsPath (p : ProductData) (path : List ℕ) (letters : List (List Bool)) : Type 0 where
  pub one_each : length letters + 1 ≡ length path
  pub each : (k : ℕ) → k < length letters → ReadsEdge p (slice_index path k) (slice_index path (k + 1))
      (slice_index_or letters k [])

-- the circuit reads the stem of a lasso on a path to a cycle of the product that the player loses, and the lap, the
-- part that repeats, along this cycle
pub record ReadsRound (player : ℕ) (p : ProductData) (s : StimulusData) : Type 0 where
  pub cycle : List ℕ
  pub lost : IsLostRound p.game player cycle
  pub way : List ℕ
  pub leads : IsWayTo p.game way (slice_index cycle 0)
  pub stem : ReadsPath p way s.stem
  pub lap : ReadsPath p (round_of cycle) s.lap

abbrev pub IsToldOf : ℕ → ProductData → Judgement → Type 0
IsToldOf player p Wins = WinsLoops p.game player
IsToldOf player p (Loses stimulus) = ReadsRound player p stimulus
