use Rattle.std.proofs.Common.{arith}
use Rattle.ps_diagram.proofs.TreesFromData.Alone.{bit_false}
use Rattle.ps_diagram.proofs.TreeOperations.BitLists.{add_bit, skip_bit}
use Rattle.ps_diagram.proofs.TreeOperations.Hiding.{bit_not_zero}
use Rattle.ps_diagram.proofs.store.Store.add_least_bit.Goals as goal

pub returns-then-hidden-proposition-eq0-clause-adds : goal.returns-then-hidden-proposition-eq0-clause-adds
returns-then-hidden-proposition-eq0-clause-adds c s whole b =
    skip_bit c.args.hidden whole c.args.proposition c.args.node c.args.bits.now.items
    (bit_false c.args.hidden c.args.proposition (λ one. omega (arith, one, c.if-hidden-proposition-eq0.true))) b

pub returns-clause-adds : goal.returns-clause-adds
returns-clause-adds c s whole b = add_bit c.args.hidden whole c.args.proposition c.args.node c.args.bits.now.items
    (bit_not_zero c.args.hidden c.args.proposition c.if-hidden-proposition-eq0.false) c.least_bit.ensures.keeps
    c.in_ok-made.made c.in_ok-made.ensures.bit b c.push.new.self.items c.in_ok-push.ensures.items
