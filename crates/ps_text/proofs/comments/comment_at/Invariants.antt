use Rattle.std.proofs.Common.{◌≡◌, ◌≤◌, drop, false}
use Rattle.ps_text.specs.Comments.{comment_len}
use Rattle.ps_text.proofs.NestedComments.{plus}
use Rattle.ps_text.proofs.comments.comment_at.Given as goal

abbrev pub invariant-loop-at : goal.invariant-loop-at
invariant-loop-at l = record {
  rest : plus l.at (comment_len (drop l.at l.bytes) l.skip l.depth) ≡ comment_len l.bytes false 0;
  within : l.depth ≤ l.at;
}
