use Rattle.ps_solution.proofs.EntryLoop.{exit, entry_reads, vertex_stops, winner_stops, choice_halts, end_stops}
use Rattle.ps_solution.proofs.reader.entry.Goals as goal

pub returns-in_err-vertex-clause-part : goal.returns-in_err-vertex-clause-part
returns-in_err-vertex-clause-part c =
    exit _ _ _ _ _ _ (vertex_stops _ _ _ _ c.in_err-vertex.ensures.part) c.from_residual.ensures.1

pub returns-in_err-winner-clause-part : goal.returns-in_err-winner-clause-part
returns-in_err-winner-clause-part c = exit _ _ _ _ _ _
    (winner_stops _ _ _ c.in_ok-vertex.ensures.part c.in_err-winner.ensures) c.from_residual-in_err-winner.ensures.1

pub returns-in_err-choice-clause-part : goal.returns-in_err-choice-clause-part
returns-in_err-choice-clause-part c = exit _ _ _ _ _ _
    (choice_halts _ _ _ c.in_ok-vertex.ensures.part c.in_ok-winner.ensures c.in_err-choice.ensures.part)
    c.from_residual-in_err-choice.ensures.1

pub returns-in_err-semicolon-clause-part : goal.returns-in_err-semicolon-clause-part
returns-in_err-semicolon-clause-part c = exit _ _ _ _ _ _
    (end_stops _ _ _ c.in_ok-vertex.ensures.part c.in_ok-winner.ensures c.in_ok-choice.ensures.part
    c.in_err-semicolon.ensures) c.from_residual-in_err-semicolon.ensures.1

pub returns-clause-part : goal.returns-clause-part
returns-clause-part c = entry_reads _ _ c.in_ok-vertex.ensures.part c.in_ok-winner.ensures c.in_ok-choice.ensures.part
    c.in_ok-semicolon.ensures c.name.ensures
