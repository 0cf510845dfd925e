use Rattle.ps_synthesis.proofs.ShortTexts.{free_fault, free_short}
use Rattle.ps_synthesis.proofs.short.answer_of_file.Goals as goal

pub returns-then-is_wide-clause-short : goal.returns-then-is_wide-clause-short
returns-then-is_wide-clause-short g c =
    free_short (g.S.Solver.known c.args.solver.now) (c.is_free.ensures c.if-is_free.true) c.args.order c.args.file.now
    c.answer_without_game.result c.answer_without_game.ensures.short

pub returns-then-is_wide-clause-refused : goal.returns-then-is_wide-clause-refused
returns-then-is_wide-clause-refused g c =
    free_fault (g.S.Solver.known c.args.solver.now) (c.is_free.ensures c.if-is_free.true) c.args.order c.args.file.now
    c.answer_without_game.result c.answer_without_game.ensures.refused
