-- The relation that holds if two machines behave in the same way.
-- - `BehavesAs b c`: the machines have equal propositions, players, memory states and steps
use Rattle.std.specs.Prelude.{◌≡◌, ℕ, ◌<◌}
use Rattle.ps_machine.specs.Behaviours.{Behaviour}

-- From each memory state, for every letter read, the two machines go to the same memory state and output the same
-- letter.
pub record BehavesAs (b c : Behaviour) : Type 0 where
  pub names : b.names ≡ c.names
  pub inputs : b.inputs ≡ c.inputs
  pub outputs : b.outputs ≡ c.outputs
  pub player : b.player ≡ c.player
  pub is_first : b.is_first ≡ c.is_first
  pub memories : b.memories ≡ c.memories
  pub next : (memory x : ℕ) → memory < b.memories → b.next memory x ≡ c.next memory x
  pub plays : (memory x : ℕ) → memory < b.memories → b.plays memory x ≡ c.plays memory x
