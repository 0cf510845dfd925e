use Rattle.std.proofs.Common.{refl}
use Rattle.ps_tableau_product.proofs.FairProducts.AppendLemmas.{grew_more, grew_none}
use Rattle.ps_tableau_product.proofs.exploring.extend.Goals as goal

pub loop-k-init : goal.loop-k-init
loop-k-init c = grew_none c.args.numbers.now c.args.letters.now c.args.cover.now c.args.row.now.items

pub loop-k-preserved : goal.loop-k-preserved
loop-k-preserved c = grew_more _ c.loop-k.invariant c.in_ok-push.ensures.items refl refl refl
