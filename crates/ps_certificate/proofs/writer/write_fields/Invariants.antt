use Rattle.std.proofs.Common.{◌≡◌, ◌≤◌, ◌++◌, ◌-◌, drop, length}
use Rattle.ps_certificate.specs.Written.{fields}
use Rattle.ps_certificate.proofs.writer.write_fields.Given as goal

abbrev pub invariant-loop-place : goal.invariant-loop-place
invariant-loop-place l = record {
  within : l.place ≤ length l.numbers;
  bytes : l.out.items ++ fields (drop l.place l.numbers) ≡ l.initial.out.items ++ fields l.numbers;
}

abbrev pub decreases-loop-place : goal.decreases-loop-place
decreases-loop-place l = length l.numbers - l.place
