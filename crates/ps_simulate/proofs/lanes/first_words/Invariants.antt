use Rattle.std.proofs.Common.{◌≡◌, ℕ, ◌<◌, map, take}
use Rattle.ps_circuit.specs.declared.parts.Latch.{Latch}
use Rattle.ps_simulate.specs.Lanes.{lane_of}
use Rattle.ps_simulate.proofs.lanes.first_words.Given as goal

abbrev pub invariant-loop-latch : goal.invariant-loop-latch
invariant-loop-latch l = (lane : ℕ) → lane < 256 → lane_of l.words.items lane ≡ map (λ (m : Latch). m.reset)
    (take l.latch-index l.circuit.latches)
