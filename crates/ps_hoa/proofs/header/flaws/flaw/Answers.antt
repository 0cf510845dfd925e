use Rattle.std.proofs.Common.{rules, arith}
use Rattle.std.proofs.lemmas.Bool.{iff_false}
use Rattle.ps_hoa.proofs.HoaOutcomes.HeaderFlaws.{no_acceptance_least, too_large_least, no_start_least, range_least}
use Rattle.ps_hoa.proofs.HoaOutcomes.HeaderFlaws.{no_controllable_least, none_is_sound, said_none, said_some}
use Rattle.ps_hoa.proofs.HoaOutcomes.HeaderFlaws.{is_said_none}
use Rattle.ps_hoa.proofs.HoaOutcomes.HeaderFlaws.{is_said_some}
use Rattle.ps_hoa.proofs.header.flaws.flaw.Goals as goal

pub returns-then-is_none : goal.returns-then-is_none
returns-then-is_none c = grind (arith, no_acceptance_least, said_none)

pub returns-then-is_start_too_large : goal.returns-then-is_start_too_large
returns-then-is_start_too_large c = grind (arith, too_large_least, said_some)

pub returns-then-is_none-2 : goal.returns-then-is_none-2
returns-then-is_none-2 c = grind (arith, no_start_least, said_some, iff_false, is_said_none)

pub returns-then-is_range_broken : goal.returns-then-is_range_broken
returns-then-is_range_broken c = search (rules, range_least, said_some, iff_false, is_said_some)

pub returns-then-is_none-3 : goal.returns-then-is_none-3
returns-then-is_none-3 c = search (rules, no_controllable_least, said_some, iff_false, is_said_some, is_said_none)

pub returns : goal.returns
returns c = grind (arith, none_is_sound, said_some, iff_false, is_said_some)
