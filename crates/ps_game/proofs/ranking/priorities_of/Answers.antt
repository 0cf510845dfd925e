use Rattle.std.proofs.Common.{eqb, arith}
use Rattle.std.proofs.lemmas.List.Filters.{dedup_is}
use Rattle.ps_game.proofs.Priorities.{lists_push, lists_skip, lists_from}
use Rattle.ps_game.proofs.ranking.priorities_of.Goals as goal
use Rattle.ps_game.proofs.ranking.priorities_of.Goals.{then-priority-parity+in_ok-push, else-priority-parity}

pub loop-vertex-preserved : goal.loop-vertex-preserved
loop-vertex-preserved g c =
    let e = c.priority-priority.ensures in
    elim c.if-priority-parity.branch [
      | then-priority-parity+in_ok-push w ↦ grind (
        arith,
        lists_push c.loop-vertex.invariant
            (omega (arith, c.count-vertex-end.ensures.vertices)) (rw e at w.if-priority-parity.true),
      )
      | else-priority-parity w ↦ grind (arith, lists_skip c.loop-vertex.invariant (rw e at w.if-priority-parity.false))
    ]

pub returns : goal.returns
returns g c =
    lists_from c.loop-vertex.invariant (omega (arith, c.loop-vertex-test.false, c.count-vertex-end.ensures.vertices))
    c.sort_unstable.ensures.permutation c.sort_unstable.ensures.sorted (dedup_is eqb _ _ c.dedup.ensures.filtered)
