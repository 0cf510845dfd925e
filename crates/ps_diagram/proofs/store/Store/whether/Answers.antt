use Rattle.ps_diagram.proofs.NodeTables.Cells.{keeps_refl}
use Rattle.ps_diagram.proofs.NodeTables.MadeDiagrams.{by-last}
use Rattle.ps_diagram.proofs.TreeOperations.LeastBits.{whether_is}
use Rattle.ps_diagram.proofs.store.Store.whether.Goals as goal

pub returns-clause-whether : goal.returns-clause-whether
returns-clause-whether c = by-last (keeps_refl c.args.self.now)
    (λ made h. whether_is c.args.hidden c.args.self.now.propositions _ _
    (c.allocator.ensures.sound.ordered c.args.node c.requires.held) h) c.hidden_by.ensures.made
