use Rattle.std.proofs.Common.{◌≡◌, ◌+◌, ◌-◌, ◌≤◌, length, drop}
use Rattle.std.specs.List.{prefix_len}
use Rattle.ps_text.specs.Bytes.{is_blank}
use Rattle.ps_pgsolver.proofs.token.next_start.Given as goal

abbrev pub decreases-loop-start : goal.decreases-loop-start
decreases-loop-start l = length l.text - l.start

-- the bytes between the two offsets are blanks
abbrev pub invariant-loop-start : goal.invariant-loop-start
invariant-loop-start l =
    (l.start + prefix_len is_blank (drop l.start l.text) ≡ l.at + prefix_len is_blank (drop l.at l.text)) ×
    (l.start ≤ length l.text)
