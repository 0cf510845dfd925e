use Rattle.std.proofs.Common.{is_some, arith}
use Rattle.ps_hoa.proofs.Grammar.HeaderSigns.{takes_bad}
use Rattle.ps_hoa.proofs.Reading.NewAliases.{number-among, new_alias_taken, old_alias_bad, old_alias_least}
use Rattle.ps_hoa.proofs.header.new_names.new_alias_of.Goals as goal

pub returns-then-is_some : goal.returns-then-is_some
returns-then-is_some c = grind (arith, number-among, is_some, takes_bad, old_alias_bad, old_alias_least)

pub returns : goal.returns
returns c = grind (arith, number-among, is_some, new_alias_taken)
