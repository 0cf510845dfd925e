use Rattle.std.proofs.Common.{◌∙◌, List, None, ap, arith, get_or, map}
use Rattle.ps_product.specs.Inner.Entries.{truth_in}
use Rattle.ps_product.specs.declared.known.Entry.{Entry}
use Rattle.ps_product.proofs.CircuitFunctions.Stamps.{forgotten_copies}
use Rattle.ps_product.proofs.known.Known.new.Goals as goal

pub returns-clause-none : goal.returns-clause-none
returns-clause-none c = λ place.
    ap (λ (xs : List Entry). get_or (map (truth_in 1) xs) place None)
    (c.in_ok-entries.ensures.items_if_clones_equal (λ y e. e)) ∙ forgotten_copies 1 c.args.places _ (omega arith) place
