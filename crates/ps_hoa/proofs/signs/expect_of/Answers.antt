use Rattle.std.proofs.Common.{rules}
use Rattle.std.proofs.lemmas.Bool.{iff_false}
use Rattle.ps_hoa.proofs.Grammar.HeaderSigns.{takes_refused, expect_none}
use Rattle.ps_hoa.proofs.signs.expect_of.Goals as goal

pub returns-else-is_kind : goal.returns-else-is_kind
returns-else-is_kind c = search (rules, takes_refused, expect_none, iff_false)
