use Rattle.std.proofs.Common.{arith}
use Rattle.ps_keys.proofs.TableLemmas.{none_passed}
use Rattle.ps_keys.proofs.table.Table.free_slot.Goals as goal

pub returns-clause-some : goal.returns-clause-some
returns-clause-some c = λ has.
    let slots = c.args.self.now.slots in
    absurd (none_passed slots.items c.args.hash c.loop-passed.passed has c.loop-passed.invariant
    (omega (arith, c.loop-passed-test.false, c.len-size.ensures, slots.ok)))
