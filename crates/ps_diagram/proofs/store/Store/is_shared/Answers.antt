use Rattle.std.proofs.lemmas.Bool.{eqb-true}
use Rattle.ps_diagram.specs.Table.{tree_of}
use Rattle.ps_diagram.proofs.ClassesOfLetters.Spreading.{below_root, unread}
use Rattle.ps_diagram.proofs.store.Store.is_shared.Goals as goal

pub returns-then-level-lt64 : goal.returns-then-level-lt64
returns-then-level-lt64 c = λ is.
    let level = c.level-level.ensures in
    unread c.args.self.now.propositions c.args.split (tree_of c.args.self.now c.args.node)
    (level.sound.ordered c.args.node c.requires) (below_root c.args.split level.root (eqb-true _ 0 is))
