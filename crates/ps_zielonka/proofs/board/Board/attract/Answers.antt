use Rattle.std.proofs.Common.{inl}
use Rattle.ps_zielonka.proofs.board.Board.attract.Goals as goal

pub attract-requires-clause-fits_width : goal.attract-requires-clause-fits_width
attract-requires-clause-fits_width g c = rw c.aim.ensures (inl c.requires.fits_width)

pub returns-clause-grown : goal.returns-clause-grown
returns-clause-grown g c = rw c.give.ensures.tables (rw c.aim.ensures at c.in_ok-attract.ensures.grown)

pub returns-clause-attracted : goal.returns-clause-attracted
returns-clause-attracted g c subgame target set =
    rw c.give.ensures.tables (rw c.aim.ensures at (c.in_ok-attract.ensures.attracted subgame target set))
