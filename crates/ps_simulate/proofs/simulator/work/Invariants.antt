use Rattle.std.proofs.Common.{◌≡◌, drop}
use Rattle.ps_simulate.specs.Plans.{work_out}
use Rattle.ps_simulate.proofs.simulator.work.Given as goal

abbrev pub invariant-loop-row : goal.invariant-loop-row
invariant-loop-row l = work_out (drop l.row-index l.rows) l.values ≡ work_out l.rows l.initial.values
