use Rattle.ps_tableau_product.specs.Inner.Exploring.{Grew}
use Rattle.ps_tableau_product.proofs.exploring.extend.Given as goal

abbrev pub invariant-loop-k : goal.invariant-loop-k
invariant-loop-k l = Grew l.numbers l.letters l.cover l.initial.row.items l.row.items l.k
