use Rattle.std.proofs.Common.{◌≡◌, map, take}
use Rattle.ps_components.specs.Codes.{status_of, narrow_status_of}
use Rattle.ps_components.proofs.statuses.widened.Given as goal

abbrev pub invariant-loop-place : goal.invariant-loop-place
invariant-loop-place l = map status_of l.wide.items ≡ map narrow_status_of (take l.place l.narrow)
