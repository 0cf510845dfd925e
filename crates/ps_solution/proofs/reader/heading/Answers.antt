use Rattle.std.proofs.Common.{arith}
use Rattle.ps_solution.proofs.EntryLoop.{exit, heading_none, heading_reads, heading_stops}
use Rattle.ps_solution.proofs.reader.heading.Goals as goal

pub returns-else-is_at_word : goal.returns-else-is_at_word
returns-else-is_at_word c = heading_none c.args.tokens.now (λ e. let word = c.is_at_word.ensures.1 e in grind arith)

pub returns-in_ok-value_line : goal.returns-in_ok-value_line
returns-in_ok-value_line c =
    heading_reads _ (c.is_at_word.ensures.0 c.if-is_at_word.true) c.next.ensures.rest c.in_ok-value_line.ensures

pub returns-in_err-value_line : goal.returns-in_err-value_line
returns-in_err-value_line c = exit _ _ _ _ _ _ (heading_stops _ _ (c.is_at_word.ensures.0 c.if-is_at_word.true)
    c.next.ensures.rest c.in_err-value_line.ensures) c.from_residual.ensures.1
