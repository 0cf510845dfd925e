use Rattle.std.proofs.Common.{◌∙◌, ap}
use Rattle.ps_diagram.specs.Table.{tree_of}
use Rattle.ps_diagram.specs.Tree.{final}
use Rattle.ps_diagram.proofs.NodeTables.KnownLemmas.{kept}
use Rattle.ps_diagram.specs.Inner.Rests.{IsCofactor}
use Rattle.ps_diagram.proofs.ClassesOfLetters.Spreading.{spread_here}
use Rattle.ps_diagram.proofs.NodeTables.MadeDiagrams.{by-last}
use Rattle.ps_diagram.proofs.store.Store.spread_leaf.Goals as goal

pub returns-clause-made : goal.returns-clause-made
returns-clause-made c =
    let other = c.args.other.now in
    let k = c.intern.ensures.keeps in
    let rest = c.in_ok-rest.ensures.made in
    by-last c.cofactor.ensures.made.keeps (λ made is. spread_here c.intern.new.self c.args.self.now.propositions
    c.args.split c.args.letter (tree_of other c.args.node)
    (rw c.requires.lent.letters (c.table_is_sound.ensures.sound.ordered c.args.node c.requires.lent.held))
    (k.held _ rest.held)
    (kept (IsCofactor c.args.split c.args.letter (tree_of other c.args.node)) k rest.held
    (rw (c.requires.kept.same _ c.requires.lent.held) at rest.leaf)) (is ∙ ap final c.rest.view_is)) c.intern.ensures
