use Rattle.std.proofs.Common.{◌<◌, ℕ, get_or}
use Rattle.ps_game.specs.Games.{successors_of}
use Rattle.ps_machine.specs.Numbering.{StandsAt}
use Rattle.ps_machine.proofs.drawing.Plan.successor.Given as goal

-- no successor so far stands for the key
abbrev pub invariant-loop-other : goal.invariant-loop-other
invariant-loop-other l = (k : ℕ) → k < l.other →
    StandsAt l.self.keys.now (get_or (successors_of l.self.game.now l.vertex) k 0) l.key → ⊥
