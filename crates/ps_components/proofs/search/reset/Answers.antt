use Rattle.std.proofs.Common.{arith, rules}
use Rattle.std.proofs.lemmas.Option.{slice_get-get_or}
use Rattle.ps_components.proofs.Renewing.{listed_next, listed_last}
use Rattle.ps_components.proofs.search.reset.Goals as goal

pub loop-item-preserved : goal.loop-item-preserved
loop-item-preserved c = search (rules, listed_next, slice_get-get_or)

pub returns : goal.returns
returns c = listed_last (omega (arith, c.loop-item-test.false)) c.loop-item.invariant
