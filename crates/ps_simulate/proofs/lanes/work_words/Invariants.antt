use Rattle.std.proofs.Common.{◌≡◌, ℕ, ◌<◌, drop}
use Rattle.ps_simulate.specs.Lanes.{lane_of}
use Rattle.ps_simulate.specs.LanePlans.{rows_from}
use Rattle.ps_simulate.specs.Plans.{work_out}
use Rattle.ps_simulate.proofs.lanes.work_words.Given as goal

abbrev pub invariant-loop-number : goal.invariant-loop-number
invariant-loop-number l =
    (lane : ℕ) → lane < 256 → work_out (drop l.number (rows_from l.front l.gates)) (lane_of l.values lane) ≡ work_out
    (rows_from l.front l.gates) (lane_of l.initial.values lane)
