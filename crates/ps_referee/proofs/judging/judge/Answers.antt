use Rattle.ps_referee.specs.Solutions.{IsRefusal}
use Rattle.ps_referee.proofs.Judged.{judged_err, if_err}
use Rattle.ps_referee.proofs.judging.judge.Goals as goal

pub returns-in_err-closing-clause-judged : goal.returns-in_err-closing-clause-judged
returns-in_err-closing-clause-judged g c = λ s.
    let game = g.A.Arena.game c.args.arena.now in
    judged_err game c.args.won.now c.args.first.now c.args.second.now _ c.count-vertices.ensures.well_formed s
    (if_err _ _ (IsRefusal game c.args.won.now c.args.first.now c.args.second.now) c.from_residual.ensures.1
    c.in_err-closing.ensures.refused)

pub returns-clause-judged : goal.returns-clause-judged
returns-clause-judged g c = λ s.
    judged_err (g.A.Arena.game c.args.arena.now) c.args.won.now c.args.first.now c.args.second.now _
    c.count-vertices.ensures.well_formed s c.counting.ensures.refused
