use Rattle.std.proofs.Common.{arith}
use Rattle.ps_hoa.proofs.Grammar.HeaderSigns.{name_new, of_taken, reads_token, signs_new_name}
use Rattle.ps_hoa.proofs.header.new_names.new_name.Goals as goal

pub returns-clause-part : goal.returns-clause-part
returns-clause-part c = grind (arith, reads_token, signs_new_name)

pub returns-clause-new : goal.returns-clause-new
returns-clause-new c = of_taken _ c.new_name_of.result _ (λ name t. name_new _ name.items _ t) c.new_name_of.ensures
