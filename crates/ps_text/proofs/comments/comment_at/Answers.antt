use Rattle.std.proofs.Common.{arith}
use Rattle.ps_text.proofs.NestedComments.{comment_skip, comment_ends, comment_closes, comment_opens, comment_on}
use Rattle.ps_text.proofs.NestedComments.{comment_past}
use Rattle.ps_text.proofs.comments.comment_at.Goals as goal
use Rattle.ps_text.proofs.comments.comment_at.Goals.{then-skip, else-skip+then-is_pair+else-depth-eq0}
use Rattle.ps_text.proofs.comments.comment_at.Goals.{else-skip+else-is_pair+then-is_pair-2}
use Rattle.ps_text.proofs.comments.comment_at.Goals.{else-skip+else-is_pair+else-is_pair-2}

pub returns-clause-value : goal.returns-clause-value
returns-clause-value c = grind (arith, comment_past)

pub returns-then-depth-eq0-clause-value : goal.returns-then-depth-eq0-clause-value
returns-then-depth-eq0-clause-value c = grind (arith, comment_ends)

pub loop-at-preserved : goal.loop-at-preserved
loop-at-preserved c = grind (arith, comment_skip, comment_closes, comment_opens, comment_on)
