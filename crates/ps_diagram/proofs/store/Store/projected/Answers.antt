use Rattle.ps_diagram.proofs.NodeTables.Cells.{keeps_refl}
use Rattle.ps_diagram.proofs.TreeOperations.HiddenLetters.{is_projection}
use Rattle.ps_diagram.proofs.NodeTables.MadeDiagrams.{by-last}
use Rattle.ps_diagram.proofs.store.Store.projected.Goals as goal

pub returns : goal.returns
returns c = by-last (keeps_refl c.args.self.now)
    (λ made h. is_projection c.args.hidden c.args.node c.table_is_sound.ensures.sound c.requires.held made h)
    c.whether.ensures.hidden
