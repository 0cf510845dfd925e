use Rattle.ps_solution.proofs.EntryLoop.{exit, value_stops, value_ends}
use Rattle.ps_solution.proofs.reader.value_line.Goals as goal

pub returns-in_err-number : goal.returns-in_err-number
returns-in_err-number c = exit _ _ _ _ _ _ (value_stops _ _ c.in_err-number.ensures) c.from_residual.ensures.1

pub returns : goal.returns
returns c = value_ends _ _ _ c.in_ok-number.ensures c.semicolon.ensures
