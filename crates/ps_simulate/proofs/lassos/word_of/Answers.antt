use Rattle.std.proofs.Common.{arith}
use Rattle.ps_simulate.proofs.LapsOfRuns.LassoLemmas.{lap_within_items}
use Rattle.ps_simulate.proofs.LapsOfRuns.WordLemmas.{word_is_items}
use Rattle.ps_simulate.proofs.lassos.word_of.Goals as goal

pub overflow_mul-start : goal.overflow_mul-start
overflow_mul-start c = grind (arith, lap_within_items)

pub overflow_add-start : goal.overflow_add-start
overflow_add-start c = grind (arith, lap_within_items)

pub new-requires-2 : goal.new-requires-2
new-requires-2 c = grind (arith, lap_within_items)

pub returns : goal.returns
returns c = word_is_items c.args.stem.now c.args.lap.now c.new-2.result (rw c.in_ok-run.ensures.circuit at c.in_ok-first.ensures)
    (grind arith) (grind arith)
