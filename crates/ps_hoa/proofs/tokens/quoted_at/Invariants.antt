use Rattle.std.proofs.Common.{◌≡◌, drop, false}
use Rattle.ps_text.proofs.NestedComments.{plus}
use Rattle.ps_hoa.specs.Scan.{quoted_len}
use Rattle.ps_hoa.proofs.tokens.quoted_at.Given as goal

abbrev pub invariant-loop-at : goal.invariant-loop-at
invariant-loop-at l = plus l.at (quoted_len (drop l.at l.bytes) l.skip) ≡ quoted_len l.bytes false
