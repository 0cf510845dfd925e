use Rattle.std.proofs.Common.{arith}
use Rattle.ps_hoa.proofs.Grammar.HeaderSigns.{of_taken, reads_token, signs_alias}
use Rattle.ps_hoa.proofs.Reading.NewAliases.{alias_new}
use Rattle.ps_hoa.proofs.header.new_names.new_alias.Goals as goal

pub returns-clause-part : goal.returns-clause-part
returns-clause-part c = grind (arith, reads_token, signs_alias)

pub returns-clause-new : goal.returns-clause-new
returns-clause-new c = of_taken _ c.new_alias_of.result _ (λ name t. alias_new name.now _ _ t) c.new_alias_of.ensures
