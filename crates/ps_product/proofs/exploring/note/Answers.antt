use Rattle.std.proofs.Common.{◌≡◌, ◌++◌, ◌∷◌, [], Some, arith, get_or, length, refl}
use Rattle.std.specs.List.{slice_get}
use Rattle.std.proofs.lemmas.Option.{slice_get-get_or}
use Rattle.ps_product.specs.declared.exploring.Lead.{Lead}
use Rattle.ps_product.proofs.ExploredProducts.NotedLeads.{noted_more}
use Rattle.ps_product.proofs.exploring.note.Goals as goal
use Rattle.ps_product.proofs.exploring.note.Goals.{then-number-len+then-from-number+in_ok-push, else-number-len}

pub loop-k-preserved : goal.loop-k-preserved
loop-k-preserved c = elim c.if-number-len.branch [
  | then-number-len+then-from-number+in_ok-push w ↦
      let now = c.loop-k.leads.items in
      let k = c.loop-k.k in
      let lead : Lead = record { from = c.args.from; letter = get_or c.args.letters.now k 0 } in
      let at : slice_get c.args.numbers.now k ≡ Some (length now) =
      grind (arith, slice_get-get_or c.args.numbers.now k 0 c.loop-k-test.true) in
      let more = noted_more k lead c.loop-k.invariant refl refl at (omega arith) in
      let same : c.if-number-len.leads.items ≡ now ++ lead ∷ [] = grind arith in
      rw same more
  | else-number-len w ↦
      let same : c.if-number-len.leads.items ≡ c.loop-k.leads.items = grind arith in
      rw same c.loop-k.invariant
]
