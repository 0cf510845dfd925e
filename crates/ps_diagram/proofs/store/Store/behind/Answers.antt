use Rattle.ps_diagram.proofs.NodeTables.Cells.{keeps_refl}
use Rattle.ps_diagram.proofs.TreeOperations.HiddenLetters.{is_behind}
use Rattle.ps_diagram.proofs.NodeTables.MadeDiagrams.{by-last}
use Rattle.ps_diagram.proofs.store.Store.behind.Goals as goal

pub returns : goal.returns
returns c = by-last (keeps_refl c.args.self.now)
    (λ made h. is_behind c.args.fixed c.args.node c.table_is_sound.ensures.sound c.requires.held c.args.letter
    made c.requires.over h) c.fixed.ensures
