use Rattle.std.proofs.Common.{sym}
use Rattle.ps_diagram.specs.Letters.{assignment}
use Rattle.ps_diagram.proofs.TreeOperations.Pairing.{adds_one}
use Rattle.ps_diagram.proofs.store.Store.paired_leaves.Goals as goal

pub returns-clause-adds : goal.returns-clause-adds
returns-clause-adds c = adds_one c.args.pairs.now.keys (c.in-Some.one, c.in-Some-eval.other) c.in_ok-place.ensures.keys
    (assignment 0, sym c.in-Some.ensures, sym c.in-Some-eval.ensures)
