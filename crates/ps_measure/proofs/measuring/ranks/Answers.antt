use Rattle.std.proofs.Common.{refl, ◌∙◌, rules}
use Rattle.std.proofs.lemmas.Result.{err_from_is_err_and}
use Rattle.ps_measure.proofs.RaisedCounts.Held.{held_refusal}
use Rattle.ps_measure.proofs.CountRows.WholeTable.{whole}
use Rattle.ps_measure.proofs.measuring.ranks.Goals as goal

pub returns-in_err-raises-clause-held : goal.returns-in_err-raises-clause-held
returns-in_err-raises-clause-held g c = search (rules, err_from_is_err_and, held_refusal)

pub returns : goal.returns
returns g c =
    let opposing = c.from.ensures ∙ c.number.ensures.number ∙ c.opponent-opponent.ensures in
    let done = whole (rw opposing at c.in_ok-priorities.ensures)
    (rw c.deref.ensures.value at c.in_ok-raises.ensures.ranked) in
    record { ranks = done.0; cycle = tt; held = λ _. tt; fewest = done.1; total = done.2; most = done.3; depth = refl }
