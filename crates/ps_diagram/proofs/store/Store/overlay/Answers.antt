use Rattle.std.proofs.lemmas.Result.{IfErr-weaker}
use Rattle.ps_diagram.proofs.TreeOperations.Clashing.{tells_clash}
use Rattle.ps_diagram.proofs.store.Store.overlay.Goals as goal

pub returns-clause-clash : goal.returns-clause-clash
returns-clause-clash c = IfErr-weaker c.overlaid.result _ _
    (λ e h. tells_clash c.allocator.ensures.sound c.requires.first c.requires.second e h) c.overlaid.ensures.clash
