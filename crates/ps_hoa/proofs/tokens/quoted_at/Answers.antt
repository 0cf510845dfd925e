use Rattle.std.proofs.Common.{arith}
use Rattle.ps_text.proofs.NestedComments.{plus_zero}
use Rattle.ps_hoa.proofs.Lexing.Scanning.{quoted_skip, quoted_ends, quoted_on, quoted_past}
use Rattle.ps_hoa.proofs.tokens.quoted_at.Goals as goal
use Rattle.ps_hoa.proofs.tokens.quoted_at.Goals.{then-skip, else-skip+else-byte-eq34}

pub loop-at-init : goal.loop-at-init
loop-at-init c = plus_zero _

pub returns-clause-value : goal.returns-clause-value
returns-clause-value c = grind (arith, quoted_past)

pub returns-then-byte-eq34-clause-value : goal.returns-then-byte-eq34-clause-value
returns-then-byte-eq34-clause-value c = grind (arith, quoted_ends)

pub loop-at-preserved : goal.loop-at-preserved
loop-at-preserved c = grind (arith, then-skip, quoted_skip, else-skip+else-byte-eq34, quoted_on)
