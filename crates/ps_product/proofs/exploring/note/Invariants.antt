use Rattle.ps_product.specs.Inner.Exploring.{HaveNoted}
use Rattle.ps_product.proofs.exploring.note.Given as goal

abbrev pub invariant-loop-k : goal.invariant-loop-k
invariant-loop-k l = HaveNoted l.from l.numbers l.letters l.initial.leads.items l.leads.items
