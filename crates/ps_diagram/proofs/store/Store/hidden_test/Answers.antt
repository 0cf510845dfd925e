use Rattle.ps_diagram.proofs.TreeOperations.Hiding.{bit_not_zero, test_whether}
use Rattle.ps_diagram.proofs.store.Store.hidden_test.Goals as goal

pub returns : goal.returns
returns c = test_whether c.args.hidden c.args.proposition c.args.low c.args.high
    (bit_not_zero c.args.hidden c.args.proposition c.if-hidden-proposition-eq0.false) c.taken.ensures
