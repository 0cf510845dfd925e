use Rattle.std.proofs.Common.{◌≡◌, ◌<◌, ℕ, not, arith}
use Rattle.ps_game.specs.Games.{vertex_count}
use Rattle.ps_game.specs.Regions.{has}
use Rattle.ps_referee.proofs.Judged.{first_holds, second_loses, judged, if_err}
use Rattle.ps_referee.proofs.judging.counting.Goals as goal

pub returns-in_err-even-clause-refused : goal.returns-in_err-even-clause-refused
returns-in_err-even-clause-refused g c =
    let game = g.A.Arena.game c.args.solution.now.arena.now in
    let rest : (v : ℕ) → v < vertex_count game → has c.in_ok-lost.lost v ≡ not (has c.args.solution.now.won.now v) =
    λ v below. c.in_ok-lost.ensures.others v (omega (arith, below, c.args.solution.now.sized.won_sized)) in
    if_err _ _ _ c.from_residual-in_err-even.ensures.1
    (second_loses game c.args.solution.now.won.now c.args.solution.now.first.now c.args.solution.now.second.now
    c.in_ok-lost.lost c.count-vertices.ensures.well_formed
    c.requires rest (first_holds game c.args.solution.now.won.now c.args.solution.now.first.now
    c.args.solution.now.second.now c.in_ok-lost.lost
    c.count-vertices.ensures.well_formed c.requires rest c.in_ok-odd.ensures.ranks) _ c.in_err-even.ensures.lost)

pub returns : goal.returns
returns g c =
    let game = g.A.Arena.game c.args.solution.now.arena.now in
    let rest : (v : ℕ) → v < vertex_count game → has c.in_ok-lost.lost v ≡ not (has c.args.solution.now.won.now v) =
    λ v below. c.in_ok-lost.ensures.others v (omega (arith, below, c.args.solution.now.sized.won_sized)) in
    let all = judged game c.args.solution.now.won.now c.args.solution.now.first.now c.args.solution.now.second.now
    c.in_ok-lost.lost
    c.count-vertices.ensures.well_formed c.requires rest c.in_ok-odd.odd.priorities.items
    c.in_ok-even.even.priorities.items c.in_ok-odd.odd.counts c.in_ok-even.even.counts c.in_ok-entries.entries
    c.in_ok-odd.ensures.ranks c.in_ok-even.ensures.ranks c.in_ok-entries.ensures in
    record { solution = all.0; certificate = all.1; refused = tt }
