use Rattle.std.proofs.Common.{◌≡◌, ◌∙◌, ap, arith, length, replicate}
use Rattle.std.proofs.lemmas.List.{get_or-replicate, length-replicate}
use Rattle.ps_game.specs.Games.{vertex_count}
use Rattle.ps_zielonka.specs.declared.level.TheConstants.{UNPLACED}
use Rattle.ps_zielonka.proofs.PendingCalls.Deep.{depth_start}
use Rattle.ps_zielonka.proofs.PendingCalls.Frames.{nest_start}
use Rattle.ps_zielonka.proofs.nest.Nest.new.Goals as goal

pub returns : goal.returns
returns g c =
    let game = g.A.Arena.game c.args.edges.now.arena.now in
    let board = c.in_ok-undecided.field-0 in
    let made = c.in_ok-undecided.ensures in
    let count = c.count.ensures.vertices in
    let levels : board.tables.level ≡ replicate (vertex_count game) UNPLACED = rw count at made.levels in
    let winners : length board.winner.items ≡ vertex_count game =
    ap length made.winners ∙ length-replicate c.count.result 0 ∙ count in
    record {
      stack = rw c.new.ensures.items (nest_start board.tables board.winner.items c.count.ensures.well_formed levels
          (rw count at made.moves) made.trail winners c.in_ok-falling_order.ensures
          (omega (arith, c.args.edges.now.room.levels, c.args.edges.now.room.counted)));
      deep = rw c.new.ensures.items (depth_start game board.tables.level
          (λ v is_vertex. rw levels (get_or-replicate (vertex_count game) v UNPLACED 0 is_vertex)));
    }
