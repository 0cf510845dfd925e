use Rattle.std.proofs.Common.{arith}
use Rattle.ps_hoa.proofs.Grammar.HeaderSigns.{int_within, of_taken, reads_token, signs_int}
use Rattle.ps_hoa.proofs.signs.int.Goals as goal

pub returns-clause-part : goal.returns-clause-part
returns-clause-part c = grind (arith, reads_token, signs_int)

pub returns-clause-within : goal.returns-clause-within
returns-clause-within c = of_taken _ c.int_up_to.result _ (λ n t. int_within c.args.limit n _ t) c.int_up_to.ensures
