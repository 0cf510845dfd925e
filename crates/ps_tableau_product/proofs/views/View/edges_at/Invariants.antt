use Rattle.std.proofs.Common.{take}
use Rattle.ps_tableau_product.specs.Inner.Views.{AreEdgesAt}
use Rattle.ps_tableau_product.proofs.views.View.edges_at.Given as goal

abbrev pub invariant-loop-letter : goal.invariant-loop-letter
invariant-loop-letter l =
    AreEdgesAt l.self.store l.self.nexts.items (take l.letter-index l.letters) l.state l.edges.items
