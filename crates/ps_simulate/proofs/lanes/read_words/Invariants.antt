use Rattle.std.proofs.Common.{◌≡◌, ℕ, ◌<◌, map, take}
use Rattle.ps_simulate.specs.Lanes.{lane_of}
use Rattle.ps_simulate.specs.LanePlans.{wire_in}
use Rattle.ps_simulate.specs.Plans.{read}
use Rattle.ps_simulate.proofs.lanes.read_words.Given as goal

abbrev pub invariant-loop-place : goal.invariant-loop-place
invariant-loop-place l = (lane : ℕ) → lane < 256 → take l.place (lane_of l.words lane) ≡ map
    (λ literal. read (lane_of l.values lane) (wire_in literal)) (take l.place l.literals)
