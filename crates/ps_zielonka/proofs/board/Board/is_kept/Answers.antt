use Rattle.std.proofs.Common.{◌≡◌, get_or, ◌∙◌, arith, rules}
use Rattle.ps_zielonka.proofs.PlacedVertices.Boards.{moved_more, kept_more}
use Rattle.ps_zielonka.proofs.board.Board.is_kept.Goals as goal

pub loop-place-preserved : goal.loop-place-preserved
loop-place-preserved g c =
    let so_far = c.loop-place.invariant in
    let place = c.loop-place.place in
    let u = c.vertex_at-vertex.result in
    let at : get_or c.args.self.now.tables.trail place 0 ≡ u = grind arith in
    record {
      moves = record {
        moved = moved_more c.args.frame.now.turn c.args.frame.now.top place u (search rules) (search rules) at
            so_far.moves.moved c.keeps.ensures.moved.moved;
        winner = c.keeps.ensures.moved.winner ∙ so_far.moves.winner;
        fits = c.keeps.ensures.moved.fits;
      };
      kept = kept_more place at c.keeps.ensures.moved.moved
          (rw so_far.moves.winner at (c.if-not-keeps.ensures.kept (search rules))) so_far.kept;
    }
