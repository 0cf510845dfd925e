use Rattle.std.specs.Prelude.{IsTrue}
use Rattle.std.proofs.Common.{rules}
use Rattle.ps_product.proofs.CircuitFunctions.GroupLemmas.{told_by_one}
use Rattle.ps_product.proofs.grouping.is_told_apart.Goals as goal

pub returns-then-is_same_or_negated : goal.returns-then-is_same_or_negated
returns-then-is_same_or_negated c = λ yes.
    let told : IsTrue c.is_same_or_negated.result = search rules in
    told_by_one c.args.store.now c.args.before.now c.loop-other.other-index c.other-item.result c.args.truth.now
    c.loop-other-test.true (rw (← c.other-item.is) (c.is_same_or_negated.ensures told))
