-- If the computation of one player's counts returns a fault, the fault is out of memory or a cycle that the player
-- loses.
use Rattle.std.specs.Prelude.{◌≡◌, ℕ, Option, Bool}
use Rattle.ps_game.specs.Games.{ParityGame}
use Rattle.ps_measure.specs.Ranks.{IsLostCycle}
use Rattle.ps_referee.specs.declared.fault.JudgeFault.{JudgeFault}
use Rattle.ps_referee.specs.declared.fault.JudgeFault.TheVariants.{Unclosed, BadCycle, OutOfMemory}

-- the fault is `OutOfMemory`, or it is `BadCycle` with the number `player` and a cycle of remaining edges within the
-- set, which this player loses
abbrev pub IsLostIn : ParityGame → ℕ → (ℕ → Bool) → (ℕ → Option ℕ) → JudgeFault → Type 0
IsLostIn game player set table (Unclosed flaw) = ⊥
IsLostIn game player set table (BadCycle loser cycle) =
    (loser ≡ player) × IsLostCycle game player set table cycle.items
IsLostIn game player set table OutOfMemory = Unit {0}
