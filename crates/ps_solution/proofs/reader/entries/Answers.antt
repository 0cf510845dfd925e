use Rattle.std.proofs.Common.{arith, sym, ◌∙◌}
use Rattle.ps_solution.proofs.EntryLoop.{exit, entries_start, start_stops, entries_go, entries_stop, entries_end}
use Rattle.ps_solution.proofs.EntryLoop.{entry_shrinks}
use Rattle.ps_solution.proofs.reader.entries.Goals as goal

pub returns-in_err-entry-clause-part : goal.returns-in_err-entry-clause-part
returns-in_err-entry-clause-part c =
    exit _ _ _ _ _ _ (start_stops _ _ _ _ (grind arith) c.in_err-entry.ensures.part)
    c.from_residual-in_err-entry.ensures.1

pub more-init : goal.more-init
more-init c = (entries_start _ _ _ _ _ (grind arith) c.in_ok-entry.ensures.part, c.in_ok-entry.ensures.places)

pub more-smaller : goal.more-smaller
more-smaller c = entry_shrinks _ _ _ _ _ c.in_ok-entry-2.ensures.part

pub more-preserved : goal.more-preserved
more-preserved c = (
  entries_go _ _ _ _ _ _ c.more.invariant.0 c.in_ok-entry-2.ensures.part,
  c.in_ok-entry-2.ensures.places,
)

pub returns-in_err-entry-2-clause-part : goal.returns-in_err-entry-2-clause-part
returns-in_err-entry-2-clause-part c = exit _ _ _ _ _ _ (entries_stop _ _ _ _ _ c.more.invariant.0
    (sym c.is_at_number.ensures ∙ c.more-test.true) c.in_err-entry-2.ensures.part)
    c.from_residual-in_err-entry-2.ensures.1

pub returns-clause-part : goal.returns-clause-part
returns-clause-part c =
    entries_end _ _ _ _ c.more.invariant.0 (sym c.is_at_number.ensures ∙ c.more-test.false)
