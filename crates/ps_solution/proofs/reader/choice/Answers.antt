use Rattle.std.proofs.Common.{rules}
use Rattle.ps_solution.proofs.EntryLoop.{exit, choice_none, choice_reads, choice_stops}
use Rattle.ps_solution.proofs.reader.choice.Goals as goal

pub returns-then-not-is_at_number-clause-part : goal.returns-then-not-is_at_number-clause-part
returns-then-not-is_at_number-clause-part c = search (rules, choice_none)

pub returns-in_err-successor-clause-part : goal.returns-in_err-successor-clause-part
returns-in_err-successor-clause-part c = search (rules, exit, choice_stops)

pub returns-clause-part : goal.returns-clause-part
returns-clause-part c = search (rules, choice_reads)
