use Rattle.std.proofs.Common.{◌∙◌, List, None, ap, arith, get_or, map}
use Rattle.ps_product.specs.Inner.Entries.{truth_in}
use Rattle.ps_product.specs.declared.known.Entry.{Entry}
use Rattle.ps_product.proofs.CircuitFunctions.Stamps.{forgotten, forgotten_copies}
use Rattle.ps_product.proofs.known.Known.forget.Goals as goal
use Rattle.ps_product.proofs.known.Known.forget.Goals.{then-self, else-self}

pub returns-clause-none : goal.returns-clause-none
returns-clause-none c = elim c.if-self.branch [
  | then-self w ↦ rw w.self-inside-is (λ place.
      ap (λ (xs : List Entry). get_or (map (truth_in 1) xs) place None) (w.fill.ensures.items (λ y e. e))
      ∙ forgotten_copies 1 _ _ (omega arith) place)
  | else-self w ↦
      rw w.self-inside-is (forgotten _ _ (λ k d lt. let low = c.self.invariant k d lt in omega (arith, low)))
]
